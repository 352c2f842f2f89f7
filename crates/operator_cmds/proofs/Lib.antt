pub mod NoFloats
pub mod RepeatedKeys
