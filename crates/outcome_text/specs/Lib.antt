pub mod TextRoom
pub mod OutcomeText
pub mod OutcomeTextLaws
