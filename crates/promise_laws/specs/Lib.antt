pub use Rattle.call_promise.specs.CallPromise
pub use Rattle.call_promise.specs.TwoCallSentences
pub use Rattle.call_promise.specs.TwoCalls
pub mod PromiseKept
pub mod PromiseAlone
pub mod PromiseLower
