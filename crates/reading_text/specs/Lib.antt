pub mod ReadingText
