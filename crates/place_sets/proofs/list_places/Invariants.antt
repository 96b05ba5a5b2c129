-- `list_places` has listed the places of the first k words.
use Prim.Native.Nat.{◌*◌, ◌≤◌, min}
use Rattle.place_sets.specs.PlaceSets.{Listed}
use Rattle.place_sets.proofs.list_places.Given as goal

abbrev pub invariant-loop-k : goal.invariant-loop-k
invariant-loop-k l = (l.k ≤ l.width) × Listed l.set (min l.n (64 * l.k)) l.initial.list l.list l.a
