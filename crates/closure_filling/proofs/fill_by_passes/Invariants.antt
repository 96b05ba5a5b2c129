-- The closures from the set on stand in the table, below it what was gathered, and nothing behind them has changed.
use Prim.Native.Nat.{◌^◌, ◌≤◌}
use mathlib.Core.Path.{◌≡◌}
use lib.ListN.{length, drop}
use Rattle.closure_table.specs.RuleTable.{rules_in}
use Rattle.closure_table.specs.ClosureTable.{Closures}
use Rattle.conclusion_passes.specs.GatheredConclusions.{ConclusionsGathered}
use Rattle.closure_filling.proofs.fill_by_passes.Given as goal

abbrev pub invariant-loop-set : goal.invariant-loop-set
invariant-loop-set l =
    (l.set ≤ 2 ^ l.facts) × (length l.work ≡ length l.initial.work) × Closures (rules_in l.rules l.n) l.set (2 ^ l.facts) l.work
    × ConclusionsGathered (rules_in l.rules l.n) l.facts l.set l.work × (drop (2 ^ l.facts) l.work ≡ drop (2 ^ l.facts) l.initial.work)
