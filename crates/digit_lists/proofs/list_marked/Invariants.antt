-- `list_marked` has listed the marked sets of the first i words; the marks stand before what is listed.
use Prim.Native.Nat.{◌≤◌}
use Rattle.digit_lists.specs.DigitLists.{marked_of_size}
use Rattle.digit_lists.specs.ListedBehind.{ListedBehind}
use Rattle.digit_lists.proofs.list_marked.Given as goal

abbrev pub invariant-loop-i : goal.invariant-loop-i
invariant-loop-i l = (l.i ≤ l.words) × ListedBehind l.at l.n l.initial.work (marked_of_size l.initial.work l.left l.i l.k) l.m l.work
