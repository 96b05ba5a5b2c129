-- `same_numbers` goes on as long as the numbers at the places passed agree.
use Rattle.class_splits.specs.LineTests.{AgreeBelow}
use Prim.Native.Nat.{◌≤◌}
use Rattle.class_splits.proofs.same_numbers.Given as goal

abbrev pub invariant-loop-i : goal.invariant-loop-i
invariant-loop-i l = (l.i ≤ l.k) × AgreeBelow l.work l.a l.b l.i
