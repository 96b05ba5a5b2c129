pub use Rattle.node_reader.specs.NodeTables
pub use Rattle.sheet_fields.specs.ReadingLaws
pub use Rattle.sheet_fields.specs.RefusalNumbers
pub use Rattle.start_reader.specs.StartsFound
pub mod SheetFound
