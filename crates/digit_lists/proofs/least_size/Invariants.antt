-- `least_size` has the least number of facts of the marked sets of the first i words.
use Prim.Native.Nat.{◌≤◌}
use Rattle.digit_lists.specs.DigitLists.{LeastSize}
use Rattle.digit_lists.proofs.least_size.Given as goal

abbrev pub invariant-loop-i : goal.invariant-loop-i
invariant-loop-i l = (l.i ≤ l.words) × LeastSize l.work l.left l.i l.least
