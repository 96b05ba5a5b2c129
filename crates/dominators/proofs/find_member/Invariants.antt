-- `find_member` keeps x between two places: members below the lower one stand before x, those from the upper one on do not.
use Rattle.dominators.specs.FoundMembers.{Halved}
use Prim.Native.Nat.{◌-◌}
use Rattle.dominators.proofs.find_member.Given as goal

abbrev pub invariant-loop-low : goal.invariant-loop-low
invariant-loop-low l = Halved l.work l.n l.x l.low l.high

abbrev pub decreases-loop-low : goal.decreases-loop-low
decreases-loop-low l = l.high - l.low
