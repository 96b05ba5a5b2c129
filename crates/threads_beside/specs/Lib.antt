pub use Rattle.node_moves.specs.LabelLaws
pub use Rattle.node_moves.specs.NodeMoveLaws
pub use Rattle.node_moves.specs.NodeMoves
pub use Rattle.node_opening.specs.Ranks
pub use Rattle.node_moves.specs.ThreadLaws
pub mod ThreadsBeside
pub mod ThreadsBesideLaws
pub mod ThreadTakenOut
