pub mod Judge
pub mod Refusal
pub mod Plan
