pub mod SetText
pub mod SetTextLaws
