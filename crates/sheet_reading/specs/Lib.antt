pub use Rattle.sheets.specs.Refusals
pub use Rattle.sheets.specs.Sheet
pub use Rattle.sheets.specs.SheetBytes
pub use Rattle.sheets.specs.SheetLimits
pub use Rattle.sheets.specs.WellFormed
pub mod Reading
pub mod Sound
