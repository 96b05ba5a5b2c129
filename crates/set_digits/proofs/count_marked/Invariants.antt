-- The sets marked in the first w words are counted.
use mathlib.Core.Path.{◌≡◌}
use Prim.Native.Nat.{◌*◌, ◌≤◌}
use lib.ListN.{length}
use Rattle.set_digits.specs.SetDigits.{marked_sets}
use Rattle.set_digits.proofs.count_marked.Given as goal

abbrev pub invariant-loop-w : goal.invariant-loop-w
invariant-loop-w l = (l.w ≤ l.words) × (l.n ≤ 32 * l.w) × (l.n ≡ length (marked_sets l.work l.at l.w))
