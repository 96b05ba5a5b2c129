-- `unite` has united the first k words.
use Prim.Native.Nat.{◌≤◌}
use Rattle.place_sets.specs.PlaceSets.{United}
use Rattle.place_sets.proofs.unite.Given as goal

abbrev pub invariant-loop-k : goal.invariant-loop-k
invariant-loop-k l = (l.k ≤ l.width) × United l.sets l.at l.k l.initial.into l.into
