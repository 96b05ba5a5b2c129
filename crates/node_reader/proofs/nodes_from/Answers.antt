-- A node is refused in its fields or for its threads, or it is opened and stored.
use Rattle.std.proofs.Common.{◌≡◌, refl, subst, ◌∙◌, rules, arith}
use Rattle.std.proofs.lemmas.Result.{err_from_is_err_and}
use Rattle.sheet_types.specs.Tabulate.{tabulate_length}
use Rattle.set_closure.specs.RuleTable.{rules_in}
use Rattle.sheet_types.specs.KindBytes.{kind_byte}
use Rattle.sheet_types.specs.HeldSheet.{node_held, node_in}
use Rattle.sheet_types.specs.NodeTable.{nodes_of, opened_of}
use Rattle.node_opening.specs.OpenedNodes.{Few}
use Rattle.node_reader.specs.StoredNode.{second_byte, lower_all}
use Rattle.node_reader.specs.NextNodeLaws.{next_refused, next_fits, next_many, next_few}
use Rattle.node_reader.specs.NodesSoFar.{so_far_none, so_far_refused, so_far_next, so_far_end}
use Rattle.node_reader.proofs.nodes_from.Goals as goal

pub loop-i-init : goal.loop-i-init
loop-i-init c = let a = c.args in (search rules, so_far_none a.facts (rules_in a.rules.now a.rule_count) a.n a.s.now a.at _ refl)

pub returns-in_err-node : goal.returns-in_err-node
returns-in_err-node c =
    let a = c.args in
    let l = c.loop-i in
    let rules = rules_in a.rules.now a.rule_count in
    let p = err_from_is_err_and c.from_residual.result c.from_residual.ensures.1 in
    rw (p.1, p.2)
    (so_far_refused a.facts rules a.n a.s.now a.at l.i l.next l.table l.invariant.1 _ (omega arith)
    (next_refused a.facts rules a.n a.s.now (nodes_of l.table) (opened_of l.table) l.i l.next l.invariant.1.table.opened _ c.in_err-node.ensures))

pub open_of_kind-count-requires : goal.open_of_kind-count-requires
open_of_kind-count-requires c =
    let a = c.args in
    let l = c.loop-i in
    let k : c.from-k.result ≡ l.i = omega arith in
    let few = subst (Few (opened_of l.table)) (tabulate_length (node_in (nodes_of l.table)) l.i) l.invariant.1.table.opened.few in
    let fits = next_fits a.facts (rules_in a.rules.now a.rule_count) a.n a.s.now (nodes_of l.table) (opened_of l.table) l.i l.next
    l.invariant.1.table.opened _ c.in_ok-node.ensures in
    rw k (omega arith, l.invariant.1.room, few, fits.0)

pub returns-then-count-gt-MAX_THREADS : goal.returns-then-count-gt-MAX_THREADS
returns-then-count-gt-MAX_THREADS c =
    let a = c.args in
    let l = c.loop-i in
    let o = c.open_of_kind-count in
    let rules = rules_in a.rules.now a.rule_count in
    let k : c.from-k.result ≡ l.i = omega arith in
    rw c.at.ensures
    (so_far_refused a.facts rules a.n a.s.now a.at l.i l.next l.table l.invariant.1 _ (omega arith)
    (next_many a.facts rules a.n a.s.now (nodes_of l.table) (opened_of l.table) l.i l.next l.invariant.1.table.opened
    _ c.in_ok-node.ensures (record { count = o.result; opened = opened_of o.new.table }) (rw (← k) o.ensures.opened) (omega arith)))

pub put_node-requires : goal.put_node-requires
put_node-requires c =
    let a = c.args in
    let l = c.loop-i in
    let node = c.in_ok-node.node in
    let found = c.in_ok-node.ensures in
    let k : c.from-k.result ≡ l.i = omega arith in
    let fits = next_fits a.facts (rules_in a.rules.now a.rule_count) a.n a.s.now (nodes_of l.table) (opened_of l.table) l.i l.next
    l.invariant.1.table.opened _ found in (
      omega arith,
      second_byte found.second c.requires.4 (omega arith),
      c.open_of_kind-count.ensures.long ∙ l.invariant.1.room,
      lower_all l.i (node_held (kind_byte node.kind) node.first node.second) (omega arith) fits.0,
    )

pub loop-i-preserved : goal.loop-i-preserved
loop-i-preserved c =
    let a = c.args in
    let l = c.loop-i in
    let o = c.open_of_kind-count in
    let rules = rules_in a.rules.now a.rule_count in
    let k : c.from-k.result ≡ l.i = omega arith in
    let one = next_few a.facts rules a.n a.s.now l.table l.i l.next l.invariant.1.table _ c.in_ok-node.ensures
    o.result o.new.table (rw (← k) o.ensures) (omega arith) l.invariant.1.room (omega arith) c.put_node.new.table (rw (← k) c.put_node.ensures) in
    (one.within, so_far_next a.facts rules a.n a.s.now a.at l.i l.next l.table l.invariant.1 (omega arith) _ _ one)

pub returns : goal.returns
returns c =
    let a = c.args in
    let l = c.loop-i in
    so_far_end a.facts (rules_in a.rules.now a.rule_count) a.n a.s.now a.at l.i l.next l.table l.invariant.1 (omega arith) (omega arith) (omega arith) (omega arith)
