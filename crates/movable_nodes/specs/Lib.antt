pub use Rattle.sheet_types.specs.HeldSheet
pub use Rattle.node_moves.specs.NodeMoves
pub use Rattle.sheet_types.specs.NodeTable
pub use Rattle.node_opening.specs.Ranks
pub use Rattle.node_moves.specs.ThreadLaws
pub mod Movability
pub mod MovabilityLaws
pub mod NodeTables
