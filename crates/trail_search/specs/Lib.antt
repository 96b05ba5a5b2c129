pub use Rattle.work_layout.specs.ClassLayout
pub use Rattle.telling_moves.specs.TrailLayout
pub use Rattle.work_layout.specs.WorkLayout
pub mod TakenMove
pub mod TakenSides
pub mod TakenTests
pub mod FollowedTrail
pub mod TrailTurn
