-- After i rules, those in memory and what is left to read give what the whole gives.
use Rattle.std.proofs.Common.{◌≡◌, ◌≤◌, length}
use Rattle.rule_reader.specs.RuleLoop.{RulesSoFar}
use Rattle.rule_reader.proofs.rules_from.Given as goal

abbrev pub invariant-loop-i : goal.invariant-loop-i
invariant-loop-i l = (l.next ≤ length l.s) × (length l.rules ≡ 64) × RulesSoFar l.facts l.n l.s l.at l.initial.rules l.i l.next l.rules
