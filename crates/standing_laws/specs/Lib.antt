pub mod StandingFacts
pub mod EarlierSheets
pub mod EarlierSentences
