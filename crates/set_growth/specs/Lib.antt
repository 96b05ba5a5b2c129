pub use Rattle.comparison_laws.specs.FrameTheorem
pub use Rattle.comparison_laws.specs.LimitLaws
pub use Rattle.comparison_laws.specs.SetLaws
pub use Rattle.comparison_laws.specs.SheetMoves
pub use Rattle.comparison_laws.specs.StableRounds
pub mod SetGrowth
pub mod SetGrowthLaws
