pub mod LevelText
