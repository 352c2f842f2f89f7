pub mod BlockLaws
pub mod GiveLaws
pub mod RoundLaws
