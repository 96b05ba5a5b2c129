pub use Rattle.collected_moves.specs.ListPlaces
pub use Rattle.collected_moves.specs.Members
pub use Rattle.call_frame.specs.RefusalNumbers
pub use Rattle.work_layout.specs.TestLaws
pub mod ComparedAll
pub mod ComparedAllLaws
