pub mod Answers
pub mod Digests
pub mod TagAnswers
pub mod StationAnswers
pub mod ReadingAnswers
