pub mod Reservation
pub mod LocalList
pub mod Entries
pub mod Accepted
