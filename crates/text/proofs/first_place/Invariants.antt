-- The power grows by ten while more than one digit is left, so that it is the greatest power of ten not above the number, or 1.
use Prim.Native.Nat.{◌-◌, ◌≤◌, ◌<◌, max}
use Rattle.text.specs.Powers.{PowerOfTen}
use Rattle.text.proofs.first_place.Given as goal

abbrev pub invariant-loop-q : goal.invariant-loop-q
invariant-loop-q l = (0 < l.q) × (l.q ≤ max 1 l.n) × PowerOfTen l.q

abbrev pub decreases-loop-q : goal.decreases-loop-q
decreases-loop-q l = max 1 l.n - l.q
