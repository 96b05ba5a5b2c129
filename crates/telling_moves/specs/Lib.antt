pub use Rattle.dominators.specs.RoundLayout
pub mod PlaceTests
pub mod TrailLayout
pub mod TrailPlaces
pub mod TrailTests
