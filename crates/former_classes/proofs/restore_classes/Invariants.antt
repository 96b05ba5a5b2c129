-- `restore_classes` goes up from place to place; births stay, so each former class is read as it was at the start.
use Rattle.former_classes.specs.FormerClasses.{Restored}
use Rattle.former_classes.proofs.restore_classes.Given as goal

abbrev pub invariant-loop-i : goal.invariant-loop-i
invariant-loop-i l = Restored l.initial.work l.count l.i l.work
