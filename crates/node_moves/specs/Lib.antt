pub use Rattle.move_laws.specs.LabelLaws
pub mod NodeMoves
pub mod ThreadLaws
pub mod NodeMoveLaws
