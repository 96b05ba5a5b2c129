pub mod DigitSpread
pub mod PassLaws
pub mod StoredLaws
pub mod WordLaws
pub mod JoinLaws
