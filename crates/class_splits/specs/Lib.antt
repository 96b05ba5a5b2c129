pub use Rattle.round_lines.specs.MemberLinesFound
pub use Rattle.round_lines.specs.SetLinesFound
pub mod ClassedPlaces
pub mod ChosenPlaces
pub mod LineTests
pub mod MemberSplits
