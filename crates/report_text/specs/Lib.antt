pub use Rattle.answer_laws.specs.Fitting
pub use Rattle.answer_laws.specs.FittingLaws
pub mod Runs
pub mod AnswerText
pub mod AnswerLaws
pub mod ReportText
pub mod ReportTextLaws
