pub mod Effects
pub mod Plans
pub mod Facts
