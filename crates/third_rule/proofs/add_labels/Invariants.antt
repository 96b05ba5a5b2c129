-- `add_labels`: each label of the moves before place j was added; a move that is not the first with its label has that of the one
-- before it.
use Rattle.third_rule.specs.ThirdRule.{AddedOn, ByEarlier}
use Rattle.third_rule.proofs.add_labels.Given as goal

abbrev pub invariant-loop-j : goal.invariant-loop-j
invariant-loop-j l = AddedOn (ByEarlier l.initial.work l.b.first l.initial.run l.j) l.b l.initial.work l.initial.run l.work l.run
