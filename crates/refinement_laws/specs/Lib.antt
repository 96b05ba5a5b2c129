pub mod LawfulMoves
pub mod LevelLaws
pub mod RoundLevels
pub mod EarlierRounds
pub mod StableRounds
