-- `place_targets` reads each number before it stores there, and the places of ids stand behind all that it stores to.
use Rattle.set_order.specs.SetOrderSteps.{TargetsPlaced}
use Rattle.set_order.proofs.place_targets.Given as goal

abbrev pub invariant-loop-i : goal.invariant-loop-i
invariant-loop-i l = TargetsPlaced l.initial.work l.from l.i l.work
