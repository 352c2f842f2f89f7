pub mod Items
pub mod ReadAgain
pub mod Calls
