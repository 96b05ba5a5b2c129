pub use Rattle.set_closure.specs.RuleTable
pub use Rattle.set_closure.specs.StoreLaws
pub use Rattle.set_closure.specs.Stores
pub mod HeldRules
pub mod HeldRuleLaws
