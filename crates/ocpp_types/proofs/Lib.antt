pub mod PrintedTime
pub mod Sign
pub mod TextOfTime
