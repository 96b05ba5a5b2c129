pub mod Refinement
pub mod Sentences
