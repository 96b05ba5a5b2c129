-- The blocks before the q-th are spread, and those from it on are as they were.
use Rattle.conclusion_passes.specs.GatheredConclusions.{BlocksSpread}
use Rattle.conclusion_passes.proofs.spread.Given as goal

abbrev pub invariant-loop-q : goal.invariant-loop-q
invariant-loop-q l = BlocksSpread l.fact l.blocks l.q l.initial.work l.work
