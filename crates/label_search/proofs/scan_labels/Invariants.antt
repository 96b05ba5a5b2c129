-- When the sets below v that have all facts of d are tried, the labels among what they give stand from `at` on, and there is
-- room for all.
use Prim.Native.Nat.{◌+◌, ◌-◌, ◌≤◌}
use Rattle.label_search.specs.LabelScanLaws.{Scanned}
use Rattle.label_search.proofs.scan_labels.Given as goal

abbrev pub invariant-loop-v : goal.invariant-loop-v
invariant-loop-v l = Scanned l.facts l.d l.c l.at l.initial.work l.v l.n l.work × (l.at ≤ l.hint) × (l.hint ≤ l.at + l.n)

abbrev pub decreases-loop-v : goal.decreases-loop-v
decreases-loop-v l = l.size - l.v
