-- `choose_first` goes down from place to place, so the first member of each class stays.
use Rattle.separations.specs.FirstMembers.{FirstsFound}
use Rattle.separations.proofs.choose_first.Given as goal

abbrev pub invariant-loop-i : goal.invariant-loop-i
invariant-loop-i l = FirstsFound l.initial.work l.n l.i l.work
