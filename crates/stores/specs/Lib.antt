pub mod FactSets
pub mod FactsOutside
pub mod Stores
