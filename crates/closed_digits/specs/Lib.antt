pub mod ClosedDigits
pub mod ClosedDigitLaws
