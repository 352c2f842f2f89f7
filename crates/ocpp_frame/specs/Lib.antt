pub mod Frame
pub mod Written
