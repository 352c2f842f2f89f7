pub mod Asks
pub mod Pages
pub mod Forgotten
