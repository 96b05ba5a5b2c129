pub mod ThirdRule
pub mod ThirdRuleLaws
