-- `place_ids` stores each place by the id that stands there, and no two places have one id.
use Rattle.set_order.specs.SetOrderSteps.{IdsPlaced}
use Rattle.set_order.proofs.place_ids.Given as goal

abbrev pub invariant-loop-j : goal.invariant-loop-j
invariant-loop-j l = IdsPlaced l.initial.work l.j l.work
