pub mod Words
pub mod Forms
pub mod InputLines
pub mod Journal
pub mod RowLines
pub mod OutputLines
pub mod Orders
pub mod Marks
