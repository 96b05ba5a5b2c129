pub use Rattle.answers.specs.OutcomeOf
pub use Rattle.answers.specs.Classes
pub use Rattle.answers.specs.Rounds
pub mod Grouping
pub mod GroupingRead
pub mod GroupingPromise
pub mod KnownGroupings
