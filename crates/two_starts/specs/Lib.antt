pub use Rattle.sheet_types.specs.HeldSheet
pub use Rattle.report_bytes.specs.SetLaws
pub mod TwoStarts
