pub use Rattle.seed_members.specs.FrameTheorem
pub use Rattle.seed_members.specs.LimitLaws
pub use Rattle.seed_members.specs.Seeds
pub use Rattle.seed_members.specs.SetLaws
pub mod FoundSet
pub mod LentSheetLaws
pub mod WholeSetLaws
pub mod FoundSetLaws
