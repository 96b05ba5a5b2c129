pub mod AskTheorem
