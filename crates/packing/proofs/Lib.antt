pub mod PackingLaws
pub mod FromArray
