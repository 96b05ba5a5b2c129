-- The blocks before the q-th are spread, and those from it on are as they were.
use Rattle.conclusion_passes.specs.GatheredConclusions.{BlocksSpread}
use Rattle.conclusion_passes.proofs.spread_pairs.Given as goal

abbrev pub invariant-loop-q : goal.invariant-loop-q
invariant-loop-q l = BlocksSpread 0 l.blocks l.q l.initial.work l.work
