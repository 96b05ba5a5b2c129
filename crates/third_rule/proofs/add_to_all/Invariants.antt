-- `add_to_all`: members that come in leave the moves as they are, so each turn adds to the next move that was in hand at first.
use Rattle.third_rule.specs.ThirdRule.{AddedOn, BeforePlace}
use Rattle.third_rule.proofs.add_to_all.Given as goal

abbrev pub invariant-loop-i : goal.invariant-loop-i
invariant-loop-i l = AddedOn (BeforePlace l.initial.work l.b.first l.i l.label) l.b l.initial.work l.initial.run l.work l.run
