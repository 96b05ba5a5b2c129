-- After a pass for each fact below b the entries have the conclusions of the premises that agree with the set from b on.
use Prim.Native.Nat.{◌^◌, ◌≤◌}
use Rattle.closure_table.specs.Frames.{SameOutside}
use Rattle.closure_table.specs.RuleTable.{rules_in}
use Rattle.conclusion_passes.specs.GatheredConclusions.{ConclusionsGathered}
use Rattle.closure_filling.proofs.gather.Given as goal

abbrev pub invariant-loop-fact : goal.invariant-loop-fact
invariant-loop-fact l =
    (l.fact ≤ l.facts) × ConclusionsGathered (rules_in l.rules l.n) l.fact (2 ^ l.facts) l.work × SameOutside 0 (2 ^ l.facts) l.initial.work l.work
