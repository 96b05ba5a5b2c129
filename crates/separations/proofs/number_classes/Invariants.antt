-- `number_classes` chooses first members, then goes from place to place: numbers go up by first member, and tell apart what the classes told apart.
use Rattle.separations.specs.NumberedPlaces.{Numbering}
use Rattle.separations.proofs.number_classes.Given as goal

abbrev pub invariant-loop-i : goal.invariant-loop-i
invariant-loop-i l = Numbering l.initial.work l.n l.i l.work l.count
