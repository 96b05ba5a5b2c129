pub mod MovesFound
pub mod MovesFoundLaws
