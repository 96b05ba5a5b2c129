pub use Rattle.sheet_laws.proofs.OpeningLaws
pub use Rattle.sheet_laws.specs.Ranks
pub mod CarriedInsertion
pub mod OpenedNodes
