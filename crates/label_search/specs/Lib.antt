pub use Rattle.label_tests.specs.FactsOutside
pub mod SetsAbove
pub mod LabelOrder
pub mod AskLabels
pub mod FoundLabelLaws
pub mod LabelScanLaws
