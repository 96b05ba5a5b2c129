-- Each turn keeps the set between the given one and its closure; a set that a pass leaves alone is closed, and one that it
-- changes has a greater number after it.
use Rattle.store_laws.specs.StoreLaws.{Between}
use Rattle.set_closure.specs.RuleTable.{rules_in}
use Prim.Native.Nat.{◌-◌, ◌^◌, ◌<◌}
use Rattle.set_closure.proofs.close.Given as goal

abbrev pub invariant-loop-s : goal.invariant-loop-s
invariant-loop-s l = (l.s < 2 ^ 16) × Between (rules_in l.rules l.n) l.set l.s

abbrev pub decreases-loop-s : goal.decreases-loop-s
decreases-loop-s l = 2 ^ 16 - l.s
