pub use Rattle.collected_moves.specs.ListPlaces
pub use Rattle.collected_moves.specs.Members
pub use Rattle.work_layout.specs.TestLaws
pub mod ComparedRounds
pub mod ComparedRoundsLaws
