pub mod LabelWalk
pub mod SelectLaws
pub mod FoundLaws
pub mod ClearedSets
pub mod FoundWalk
pub mod FreeSets
