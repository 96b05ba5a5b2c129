-- `apart` climbs from the higher of two classes to the one it came from; the answer from there on is the answer.
use Rattle.separations.specs.ApartClasses.{Climbing}
use Prim.Native.Nat.{◌+◌}
use Rattle.separations.proofs.apart.Given as goal

abbrev pub invariant-loop-a : goal.invariant-loop-a
invariant-loop-a l = Climbing l.work l.last l.first l.second l.r l.a l.b

abbrev pub decreases-loop-a : goal.decreases-loop-a
decreases-loop-a l = l.a + l.b
