pub mod TellAskMoves
pub mod TellAskLaws
