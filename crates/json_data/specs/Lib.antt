pub mod View
pub mod Refused
pub mod StoredData
