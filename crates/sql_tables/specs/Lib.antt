pub mod Tables
pub mod Forms
pub mod Meanings
pub mod Opening
