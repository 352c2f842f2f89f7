pub mod Joined
pub mod Utf8
