pub mod Journals
pub mod TurnHub
