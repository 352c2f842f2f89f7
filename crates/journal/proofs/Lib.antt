mod Cuts
mod Laws
mod Stops
pub mod Writers
