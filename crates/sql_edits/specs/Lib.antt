pub mod Forget
pub mod Ready
pub mod Batches
pub mod Moving
