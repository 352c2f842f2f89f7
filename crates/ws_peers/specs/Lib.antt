pub mod Paths
pub mod Causes
pub mod Stages
pub mod Peers
pub mod Sends
pub mod Reads
pub mod Routes
pub mod Lists
