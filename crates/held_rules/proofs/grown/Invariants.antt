-- After i turns the set has the conclusions of those of the first i rules whose premises the given set includes.
use Rattle.held_rules.specs.HeldRuleLaws.{GrownTo}
use Rattle.held_rules.proofs.grown.Given as goal

abbrev pub invariant-loop-i : goal.invariant-loop-i
invariant-loop-i l = GrownTo l.work l.set l.i l.t
