pub use Rattle.answers.specs.OutcomeOf
pub use Rattle.call_promise.specs.CallPromise
pub mod AfterRounds
pub mod AfterRoundsRead
pub mod AfterRoundsPromise
pub mod KnownAfters
