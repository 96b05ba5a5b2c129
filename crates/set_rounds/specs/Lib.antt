pub mod RoundMade
pub mod RoundMadeLaws
