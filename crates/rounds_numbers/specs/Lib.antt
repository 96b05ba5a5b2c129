pub use Rattle.after_rounds.specs.AfterRounds
pub mod RoundsNumbers
