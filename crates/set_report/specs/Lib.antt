pub use Rattle.report_bytes.specs.CallTheorem
pub use Rattle.dominators.specs.ClassTotals
pub mod ReportMade
pub mod ReportMadeLaws
