-- The closures from s on stand in the table, and nothing behind them has changed.
use mathlib.Core.Path.{◌≡◌}
use Prim.Native.Nat.{◌^◌, ◌≤◌}
use lib.ListN.{length, drop}
use Rattle.set_closure.specs.RuleTable.{rules_in}
use Rattle.closure_table.specs.ClosureTable.{Closures}
use Rattle.closure_table.proofs.fill_by_rules.Given as goal

abbrev pub invariant-loop-s : goal.invariant-loop-s
invariant-loop-s l =
    (l.s ≤ 2 ^ l.facts) × (length l.work ≡ length l.initial.work) × Closures (rules_in l.rules l.n) l.s (2 ^ l.facts) l.work
    × (drop (2 ^ l.facts) l.work ≡ drop (2 ^ l.facts) l.initial.work)
