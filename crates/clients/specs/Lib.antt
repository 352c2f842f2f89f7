pub mod Replies
pub mod Days
