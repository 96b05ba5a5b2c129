pub mod OpeningLaws
pub mod SectionLaws
pub mod ReadingLaws
