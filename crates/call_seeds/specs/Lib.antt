pub mod Choice
pub mod ChoiceLaws
