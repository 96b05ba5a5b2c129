pub use Rattle.work_layout.specs.ClassLayout
pub use Rattle.work_layout.specs.Classes
pub use Rattle.work_layout.specs.Refinement
pub use Rattle.work_layout.specs.Rounds
pub use Rattle.work_layout.specs.SetLayout
pub use Rattle.work_layout.specs.SheetTransitions
pub use Rattle.work_layout.specs.WorkLayout
pub mod FormerClasses
