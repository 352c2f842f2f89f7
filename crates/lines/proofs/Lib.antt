pub mod Returns
pub mod Utf8Lines
pub mod MarkLaws
pub mod JournalLaws
pub mod JournalFeeds
