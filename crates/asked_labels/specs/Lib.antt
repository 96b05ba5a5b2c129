pub mod AskedLabels
pub mod AskPromise
