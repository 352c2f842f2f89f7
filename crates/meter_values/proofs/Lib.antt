pub mod TokenLaws
pub mod ReadAgain
pub mod EachLaws
