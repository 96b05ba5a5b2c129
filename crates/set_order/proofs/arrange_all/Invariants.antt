-- `arrange_all` arranges the moves of one member after another, and each has a part of its own.
use Rattle.set_order.specs.SetOrderSteps.{AllArranged}
use Rattle.set_order.proofs.arrange_all.Given as goal

abbrev pub invariant-loop-id : goal.invariant-loop-id
invariant-loop-id l = AllArranged l.initial.work l.n l.id l.work
