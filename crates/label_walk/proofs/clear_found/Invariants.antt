-- The sets that include one of the first i numbers are cleared; the numbers stand behind the digits.
use Prim.Native.Nat.{◌≤◌}
use Rattle.label_walk.specs.ClearedSets.{Cleared}
use Rattle.label_walk.proofs.clear_found.Given as goal

abbrev pub invariant-loop-i : goal.invariant-loop-i
invariant-loop-i l = (l.i ≤ l.n) × Cleared l.left l.words l.at l.i l.initial.work l.work
