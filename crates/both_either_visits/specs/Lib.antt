pub mod StoredParts
pub mod StoredPartLaws
