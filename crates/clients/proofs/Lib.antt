pub mod SignLaws
