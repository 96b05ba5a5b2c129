pub use Rattle.packing.proofs.PackingLaws
pub use Rattle.text.specs.Slices
pub use Rattle.text.specs.StoredText
pub mod RecordLayout
pub mod RecordsStored
