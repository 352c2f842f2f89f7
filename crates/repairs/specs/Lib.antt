pub mod Texts
pub mod Integers
pub mod Names
pub mod Tables
pub mod Readings
pub mod Requests
pub mod Tolerant
