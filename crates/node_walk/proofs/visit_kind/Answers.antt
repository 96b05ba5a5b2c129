-- A node is visited as its kind byte says: that byte and the two fields beside it are the node's, and what it names is lent with it.
use native.Mathlib.Omega.{arith}
use Rattle.sheet_types.specs.NodeTable.{nodes_of}
use Rattle.sheet_types.specs.HeldSheet.{nodes_in}
use Rattle.node_walk.specs.NodeVisitLaws.{held_at, held_stop, held_tell, held_ask, held_both, held_either, parts_both, parts_either, lent_nodes, lent_known, stop_turn}
use Rattle.node_walk.proofs.visit_kind.Goals as goal

pub visit_tell-requires : goal.visit_tell-requires
visit_tell-requires c =
    let a = c.args in
    let h = c.requires.0 in
    let fit = c.requires.2.node in
    let read = held_at (nodes_of a.table.now) a.b.nodes a.e.node fit c.kind_in-kind.ensures c.first_in-first.ensures c.second_in-second.ensures.0 in
    let is = held_tell read c.in-1.is in
    (c.requires.1, c.requires.2, c.requires.3, h.told a.e.node _ fit is)

pub visit_ask-requires : goal.visit_ask-requires
visit_ask-requires c =
    let a = c.args in
    let h = c.requires.0 in
    let fit = c.requires.2.node in
    let read = held_at (nodes_of a.table.now) a.b.nodes a.e.node fit c.kind_in-kind.ensures c.first_in-first.ensures c.second_in-second.ensures.0 in
    let is = held_ask read c.in-2.is in
    let n = h.asked a.e.node _ _ fit is in
    (c.requires.1, c.requires.2, c.requires.3, n.0, n.1, h.few, h.few_threads _ n.1)

pub visit_both-requires : goal.visit_both-requires
visit_both-requires c =
    let a = c.args in
    let h = c.requires.0 in
    let fit = c.requires.2.node in
    let read = held_at (nodes_of a.table.now) a.b.nodes a.e.node fit c.kind_in-kind.ensures c.first_in-first.ensures c.second_in-second.ensures.0 in
    let is = held_both read c.in-3.is in
    let n = parts_both (lent_nodes h) a.e.node is in (
      c.requires.1,
      c.requires.2,
      c.requires.3,
      n.0,
      n.1,
      c.requires.4,
      h.few,
      h.few_threads _ n.0.inside,
      h.few_threads _ n.1.inside,
    )

pub visit_either-requires : goal.visit_either-requires
visit_either-requires c =
    let a = c.args in
    let h = c.requires.0 in
    let fit = c.requires.2.node in
    let k = c.in_default.in_default-own.rest in
    let read = held_at (nodes_of a.table.now) a.b.nodes a.e.node fit c.kind_in-kind.ensures c.first_in-first.ensures c.second_in-second.ensures.0 in
    let is = held_either read k.0.0.0.1 k.0.0.1 k.0.1 k.1 in
    let n = parts_either (lent_nodes h) a.e.node is in (
      omega (arith, c.requires.1.collecting.long),
      c.requires.3,
      record { inside = omega (arith, n.0.inside, h.few); lower = n.0.lower },
      record { inside = omega (arith, n.1.inside, h.few); lower = n.1.lower },
      c.requires.4,
      λ i l. (c.requires.1.entries i l).packed,
    )

pub returns-in-0 : goal.returns-in-0
returns-in-0 c =
    let a = c.args in
    let h = c.requires.0 in
    let fit = c.requires.2.node in
    let read = held_at (nodes_of a.table.now) a.b.nodes a.e.node fit c.kind_in-kind.ensures c.first_in-first.ensures c.second_in-second.ensures.0 in
    let is = held_stop read c.in-0.is in
    stop_turn c.requires.1 c.requires.2 (nodes_in (nodes_of a.table.now) a.b.nodes) (lent_nodes h) is

pub returns-in-1 : goal.returns-in-1
returns-in-1 c =
    let a = c.args in
    let h = c.requires.0 in
    let fit = c.requires.2.node in
    let read = held_at (nodes_of a.table.now) a.b.nodes a.e.node fit c.kind_in-kind.ensures c.first_in-first.ensures c.second_in-second.ensures.0 in
    let is = held_tell read c.in-1.is in
    c.visit_tell.ensures.turned (nodes_in (nodes_of a.table.now) a.b.nodes) (lent_nodes h) is

pub returns-in-2 : goal.returns-in-2
returns-in-2 c =
    let a = c.args in
    let h = c.requires.0 in
    let fit = c.requires.2.node in
    let read = held_at (nodes_of a.table.now) a.b.nodes a.e.node fit c.kind_in-kind.ensures c.first_in-first.ensures c.second_in-second.ensures.0 in
    let is = held_ask read c.in-2.is in
    let n = h.asked a.e.node _ _ fit is in
    c.visit_ask.ensures.turned (nodes_in (nodes_of a.table.now) a.b.nodes) (lent_nodes h) is
    (h.opens _ n.1)

pub returns-in-3 : goal.returns-in-3
returns-in-3 c =
    let a = c.args in
    let h = c.requires.0 in
    let fit = c.requires.2.node in
    let read = held_at (nodes_of a.table.now) a.b.nodes a.e.node fit c.kind_in-kind.ensures c.first_in-first.ensures c.second_in-second.ensures.0 in
    let is = held_both read c.in-3.is in
    let n = parts_both (lent_nodes h) a.e.node is in
    c.visit_both.ensures.turned (nodes_in (nodes_of a.table.now) a.b.nodes) (lent_nodes h) is (lent_known h _ n.0.inside) (lent_known h _ n.1.inside)

pub returns-in_default : goal.returns-in_default
returns-in_default c =
    let a = c.args in
    let h = c.requires.0 in
    let fit = c.requires.2.node in
    let k = c.in_default.in_default-own.rest in
    let read = held_at (nodes_of a.table.now) a.b.nodes a.e.node fit c.kind_in-kind.ensures c.first_in-first.ensures c.second_in-second.ensures.0 in
    let is = held_either read k.0.0.0.1 k.0.0.1 k.0.1 k.1 in
    c.visit_either.ensures.turned a.b c.requires.1 c.requires.2
    (nodes_in (nodes_of a.table.now) a.b.nodes) (lent_nodes h) is
