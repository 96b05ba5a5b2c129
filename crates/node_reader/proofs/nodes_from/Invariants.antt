-- After i nodes the loop has them in the table, and what is left to read gives what the whole gives.
use Rattle.std.proofs.Common.{◌≤◌, length}
use Rattle.set_closure.specs.RuleTable.{rules_in}
use Rattle.node_reader.specs.NodesSoFar.{SoFar}
use Rattle.node_reader.proofs.nodes_from.Given as goal

abbrev pub invariant-loop-i : goal.invariant-loop-i
invariant-loop-i l = (l.next ≤ length l.s) × SoFar l.facts (rules_in l.rules l.rule_count) l.n l.s l.at l.i l.next l.table
