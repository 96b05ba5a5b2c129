-- Each turn keeps the set between the given one and its closure; a set that grows by nothing is closed, and one that grows has a
-- greater number after it.
use Rattle.set_closure.specs.StoreLaws.{Between}
use Rattle.held_rules.specs.HeldRules.{held_rules}
use Prim.Native.Nat.{◌-◌, ◌^◌, ◌<◌}
use Rattle.held_rules.proofs.close.Given as goal

abbrev pub invariant-loop-s : goal.invariant-loop-s
invariant-loop-s l = (l.s < 2 ^ 32) × Between (held_rules l.work) l.set l.s

abbrev pub decreases-loop-s : goal.decreases-loop-s
decreases-loop-s l = 2 ^ 32 - l.s
