pub mod Ids
pub mod Keeps
pub mod Read
pub mod Rounds
pub mod Texts
pub mod Writable
