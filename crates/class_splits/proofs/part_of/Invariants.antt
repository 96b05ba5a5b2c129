-- `part_of` looks at one part after the other: those passed do not fit.
use Rattle.work_layout.specs.PlacesPassed.{HoldsFrom}
use Rattle.class_splits.specs.LineTests.{PartFits}
use Prim.Native.Nat.{◌≤◌}
use Rattle.class_splits.proofs.part_of.Given as goal

abbrev pub invariant-loop-k : goal.invariant-loop-k
invariant-loop-k l = (l.old ≤ l.k) × (l.k ≤ l.count) × HoldsFrom (λ j. PartFits l.work j l.c l.i → ⊥) l.old l.k
