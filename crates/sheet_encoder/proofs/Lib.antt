pub mod StandingBytes
pub mod EncodedRecords
pub mod EncoderLaws
pub mod EncodedBytes
