-- The entries have the conclusions of the rules that were passed.
use Prim.Native.Nat.{◌≤◌}
use lib.ListN.{length}
use Rattle.closure_table.specs.Frames.{SameOutside}
use Rattle.closure_table.specs.RuleTable.{rules_in}
use Rattle.conclusion_passes.specs.GatheredConclusions.{ConclusionsGathered}
use Rattle.conclusion_passes.proofs.put_rules.Given as goal

abbrev pub invariant-loop-i : goal.invariant-loop-i
invariant-loop-i l =
    (l.i ≤ l.n) × (l.size ≤ length l.work) × ConclusionsGathered (rules_in l.rules l.i) 0 l.size l.work × SameOutside 0 l.size l.initial.work l.work
