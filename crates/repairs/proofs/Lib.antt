pub mod Cut
pub mod Repaired
pub mod Numbers
pub mod SecondReading
pub mod Zeros
