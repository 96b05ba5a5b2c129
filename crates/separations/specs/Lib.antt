pub use Rattle.class_rounds.specs.StoreLaws
pub mod ApartClasses
pub mod NumberedPlaces
pub mod FirstMembers
pub mod ReportClasses
