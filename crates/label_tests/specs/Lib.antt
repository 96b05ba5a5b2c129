pub use Rattle.stores.specs.FactsOutside
pub mod LabelTests
