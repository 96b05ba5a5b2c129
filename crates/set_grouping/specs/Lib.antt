pub use Rattle.class_rounds.specs.RoundLayout
pub use Rattle.report_bytes.specs.SetLaws
pub mod GroupingMade
pub mod GroupingMadeLaws
