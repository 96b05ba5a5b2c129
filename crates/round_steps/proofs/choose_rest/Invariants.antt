-- `choose_rest` goes up from place to place, so the last member of each class that is not awake stays.
use Rattle.round_steps.specs.ChosenMembers.{Rechosen}
use Rattle.round_steps.proofs.choose_rest.Given as goal

abbrev pub invariant-loop-i : goal.invariant-loop-i
invariant-loop-i l = Rechosen l.initial.work l.n l.awake l.i l.work
