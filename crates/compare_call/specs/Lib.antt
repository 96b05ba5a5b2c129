pub use Rattle.call_frame.specs.Answered
pub use Rattle.set_report.specs.CallTheorem
pub use Rattle.set_report.specs.ClassTotals
pub use Rattle.call_frame.specs.LimitLaws
pub use Rattle.call_frame.specs.RefusalNumbers
pub mod Compared
pub mod ComparedLaws
