pub mod Terms
pub mod Tables
pub mod Bisimulations
pub mod Constrained
pub mod Algorithm
pub mod TermSets
pub mod Figure2
