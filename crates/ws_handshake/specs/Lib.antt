pub mod Answers
pub mod Subprotocols
pub mod Heads
pub mod Shakes
