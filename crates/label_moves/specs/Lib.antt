pub use Rattle.packing.specs.Moves
pub mod LabelMoves
pub mod LabelMoveLaws
