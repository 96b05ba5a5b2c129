-- The thread with the others beside it is the one node to visit, so that the walk collects what it gives; an equal thread gave it before.
use native.Mathlib.Omega.{arith}
use Rattle.sheet_types.specs.NodeTable.{nodes_of}
use Rattle.sheet_types.specs.HeldSheet.{configuration, nodes_in}
use Rattle.node_walk.specs.TellAskLaws.{counted}
use Rattle.node_walk.specs.NodeVisitLaws.{lent_nodes}
use Rattle.member_moves.specs.MovesFoundLaws.{same_next, counted_same, pushed_thread, stored_thread, walked_next}
use Rattle.member_moves.proofs.thread_moves.Goals as goal

pub returns-then-own-i : goal.returns-then-own-i
returns-then-own-i c =
    let a = c.args in
    let h = c.requires in
    let long = counted a.e.threads a.e.count c.well_formed.1.1.1.0.1.1.1.1.0.1.0.1 h.4 in
    same_next (nodes_in (nodes_of a.table.now) a.b.nodes) (configuration a.e) a.i h.1 h.2
    c.if-i-gt0.true (omega (arith, long, h.6))
    (counted_same a.e a.i h.6
    c.if-own-i.true)

pub walk-requires : goal.walk-requires
walk-requires c =
    let a = c.args in
    let h = c.requires in
    let long = counted a.e.threads a.e.count c.well_formed.1.1.1.0.1.1.1.1.0.1.0.1 h.4 in
    let p = pushed_thread c.thread_beside-thread.ensures.0 c.push.ensures in (
      h.0,
      stored_thread (nodes_in (nodes_of a.table.now) a.b.nodes) (lent_nodes h.0) (configuration a.e) a.i h.1 h.2 h.0.few
          h.3 h.5 (omega (arith, long, h.6)) p,
    )

pub returns : goal.returns
returns c =
    let a = c.args in
    let h = c.requires in
    let long = counted a.e.threads a.e.count c.well_formed.1.1.1.0.1.1.1.1.0.1.0.1 h.4 in
    let r = c.walk in
    let p = pushed_thread c.thread_beside-thread.ensures.0 c.push.ensures in
    walked_next (nodes_in (nodes_of a.table.now) a.b.nodes) (lent_nodes h.0) (configuration a.e) a.i h.1 h.2 h.0.few
    h.3 h.5 (omega (arith, long, h.6)) p r.new.work r.result r.ensures
