-- `copy_all_aside` stores behind all that the copies read, each member at a place of its own.
use Rattle.set_order.specs.SetOrderSteps.{AllAside}
use Rattle.set_order.proofs.copy_all_aside.Given as goal

abbrev pub invariant-loop-j : goal.invariant-loop-j
invariant-loop-j l = AllAside l.initial.work l.j l.work
