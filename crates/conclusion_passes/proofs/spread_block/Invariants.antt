-- The first k entries of the first run are added to those of the second.
use Prim.Native.Nat.{◌≤◌}
use Rattle.conclusion_passes.specs.GatheredConclusions.{United}
use Rattle.conclusion_passes.proofs.spread_block.Given as goal

abbrev pub invariant-loop-k : goal.invariant-loop-k
invariant-loop-k l = (l.k ≤ l.half) × United l.from l.half l.k l.initial.work l.work
