pub use Rattle.label_search.specs.AskLabels
pub use Rattle.closure_table.specs.ClosureTable
pub use Rattle.closure_table.specs.FactSets
pub use Rattle.label_search.specs.LabelScanLaws
pub mod LabelShelf
pub mod LabelShelfLaws
