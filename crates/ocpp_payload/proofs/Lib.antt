pub mod Each
pub mod BootLaws
