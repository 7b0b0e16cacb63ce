pub mod Reading
pub mod ReadingLaws
