pub mod TypedTable
pub mod Values
pub mod TypedTables
pub mod Kept
pub mod Opening
pub mod Told
