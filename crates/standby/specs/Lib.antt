pub mod Follows
pub mod Progress
