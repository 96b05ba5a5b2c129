pub mod KeptNumbers
pub mod LowerMoves
