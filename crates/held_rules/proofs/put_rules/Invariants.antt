-- After i turns the first i rules stand in their places, and from place n on rules without a conclusion.
use Rattle.held_rules.specs.HeldRuleLaws.{PutTo}
use Rattle.held_rules.proofs.put_rules.Given as goal

abbrev pub invariant-loop-i : goal.invariant-loop-i
invariant-loop-i l = PutTo l.rules l.n l.i l.initial.work l.work
