pub mod AllTheorem
pub mod AllPromiseLaws
pub mod AllSentences
pub mod AllAlone
