pub use Rattle.sheet_laws.specs.FactsOutside
pub use Rattle.sheet_laws.specs.OutsideLaws
pub mod Encoder
