pub mod PartEntry
pub mod PartEntryLaws
