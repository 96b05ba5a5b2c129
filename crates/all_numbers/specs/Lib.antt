pub use Rattle.all_starts.specs.Grouping
pub mod AllNumbers
