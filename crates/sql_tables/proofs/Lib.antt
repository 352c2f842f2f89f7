pub mod Texts
pub mod Creates
