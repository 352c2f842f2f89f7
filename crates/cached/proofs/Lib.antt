pub mod MemoLaws
pub mod TagLaws
pub mod StationLaws
pub mod ReadingLaws
