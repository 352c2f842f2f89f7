pub mod BatchLaws
pub mod MarkLaws
pub mod Forgotten
pub mod Making
pub mod MovingLaws
