-- Each turn of `place` keeps the place between the two ends and brings these closer.
use Rattle.packing.specs.Packing.{stands_for}
use Rattle.member_table.specs.MemberSearch.{Halved}
use Prim.Native.Nat.{◌-◌}
use Rattle.member_table.proofs.place.Given as goal

abbrev pub invariant-loop-low : goal.invariant-loop-low
invariant-loop-low l = Halved l.work l.n (stands_for l.x) l.low l.high

abbrev pub decreases-loop-low : goal.decreases-loop-low
decreases-loop-low l = l.high - l.low
