pub mod Constraints
pub mod Reaching
