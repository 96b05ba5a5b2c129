-- The closure of the set, cut.
use Rattle.held_rules.specs.HeldRuleLaws.{closure_read}
use Prim.Native.Nat.{ℕ, ◌%◌}
use mathlib.Core.Path.{ap}
use Rattle.held_rules.proofs.closure_of.Goals as goal

pub returns : goal.returns
returns c = closure_read _ _ _ (ap (λ (x : ℕ). x % 65536) c.close.ensures)
