pub mod Entries
pub mod Journals
pub mod Stops
pub mod Tails
pub mod Writers
