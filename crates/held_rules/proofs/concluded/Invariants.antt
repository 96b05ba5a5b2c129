-- After i turns the set has the conclusions of the first i rules.
use Rattle.set_closure.specs.Tabulate.{tabulate}
use Rattle.set_closure.specs.Stores.{conclusions}
use Rattle.set_closure.specs.SheetLimits.{max_rules}
use Rattle.held_rules.specs.HeldRules.{held_rule}
use Prim.Native.Nat.{◌≤◌}
use mathlib.Core.Path.{◌≡◌}
use Rattle.held_rules.proofs.concluded.Given as goal

abbrev pub invariant-loop-i : goal.invariant-loop-i
invariant-loop-i l = (l.i ≤ l.n) × (l.n ≤ max_rules) × (l.all ≡ conclusions (tabulate (held_rule l.work) l.i))
