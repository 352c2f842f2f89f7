pub mod Vendors
pub mod Echo
pub mod Transfer
pub mod Authorized
pub mod Decided
pub mod Book
