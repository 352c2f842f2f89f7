pub mod Peeks
pub mod Shares
pub mod Blocks
pub mod Held
pub mod Unsent
pub mod Order
pub mod Rounds
