-- `wake` unites the sets of the listed members whose class is new.
use Rattle.round_steps.specs.AwakeMembers.{Woken}
use Rattle.round_steps.proofs.wake.Given as goal

abbrev pub invariant-loop-j : goal.invariant-loop-j
invariant-loop-j l = Woken l.work l.sets l.width l.old l.list l.j l.awake
