pub use Rattle.rounds_call.specs.ComparedRounds
pub use Rattle.call_theorem.specs.LimitLaws
pub mod ToldLaws
pub mod AfterTheorem
pub mod AfterPromiseLaws
pub mod TwoLimits
pub mod AfterSentences
pub mod AfterAlone
