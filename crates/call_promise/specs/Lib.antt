pub mod CallPromise
pub mod TwoCalls
pub mod TwoCallSentences
