-- After i turns the sets that are closed under the first i rules are marked.
use Prim.Native.Nat.{◌≤◌}
use Rattle.set_digits.specs.Frames.{SameOutside}
use Rattle.held_rules.specs.RuleTable.{rules_in}
use Rattle.closed_digits.specs.ClosedDigits.{closed_at, table_end, ClosedMarked}
use Rattle.closed_digits.proofs.mark_closed.Given as goal

abbrev pub invariant-loop-i : goal.invariant-loop-i
invariant-loop-i l =
    (l.i ≤ l.n) × ClosedMarked (rules_in l.rules l.i) l.facts l.work × SameOutside closed_at table_end l.initial.work l.work
