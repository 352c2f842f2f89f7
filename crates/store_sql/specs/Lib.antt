pub mod Store
pub mod Simple
pub mod Known
pub mod Faults
