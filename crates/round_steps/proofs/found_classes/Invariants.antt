-- `found_classes` gives one member after the other its class of round 0.
use Rattle.round_steps.specs.FirstRound.{Founding}
use Rattle.round_steps.proofs.found_classes.Given as goal

abbrev pub invariant-loop-i : goal.invariant-loop-i
invariant-loop-i l = Founding l.initial.work l.i l.work l.count
