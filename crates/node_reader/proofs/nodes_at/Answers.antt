-- `nodes_at` reads the count, and so many nodes.
use Rattle.std.proofs.Common.{sym, arith}
use Rattle.std.proofs.lemmas.Result.{err_from_is_err_and}
use Rattle.set_closure.specs.RuleTable.{rules_in}
use Rattle.set_closure.specs.SheetLimits.{min_nodes, max_nodes}
use Rattle.sheet_types.specs.Reading.{nodes_at}
use Rattle.sheet_fields.specs.FieldLaws.{count_gets}
use Rattle.sheet_fields.specs.AnswerLaws.{refused_then, got_then}
use Rattle.node_reader.specs.NodesFound.{nodes_refused}
use Rattle.node_reader.proofs.nodes_at.Goals as goal

pub returns-in_err-n : goal.returns-in_err-n
unfolding nodes_at
returns-in_err-n c =
    let a = c.args in
    let p = err_from_is_err_and c.from_residual.result c.from_residual.ensures.1 in
    rw (p.1, p.2)
    (nodes_refused (nodes_at a.facts (rules_in a.rules.now a.rule_count) a.s.now a.at) a.s.now _ (sym (refused_then _ _ c.in_err-n.ensures)))

pub nodes_from-requires : goal.nodes_from-requires
nodes_from-requires c =
    let n = (count_gets c.args.s.now c.args.at min_nodes max_nodes 7).holds _ _ (sym c.in_ok-n.ensures) in
    (n.0.within, omega arith, omega arith, n.1, n.2)

pub returns : goal.returns
unfolding nodes_at
returns c = rw (got_then _ _ c.in_ok-n.ensures) c.nodes_from.ensures
