-- What each thread gives beside the others is collected in turn, and every move of the member is given by one of its threads.
use native.Mathlib.Omega.{arith}
use Rattle.sheet_types.specs.NodeTable.{nodes_of}
use Rattle.sheet_types.specs.HeldSheet.{configuration, nodes_in}
use Rattle.node_walk.specs.TellAskLaws.{counted}
use Rattle.member_moves.specs.MovesFoundLaws.{so_far_none, so_far_next, so_far_over, so_far_all, next_on, next_over}
use Rattle.member_moves.proofs.moves_of.Goals as goal

pub loop-i-init : goal.loop-i-init
loop-i-init c =
    let a = c.args in
    (omega arith, so_far_none (nodes_in (nodes_of a.table.now) a.b.nodes) (configuration a.e) c.requires.1 c.requires.2 c.requires.3)

pub returns-in_err-cur : goal.returns-in_err-cur
returns-in_err-cur c =
    let h = c.requires in
    rw c.from_residual.ensures
    (so_far_over h.1 c.loop-i.invariant.1 (next_over c.in_err-cur.was c.thread_moves.ensures))

pub loop-i-preserved : goal.loop-i-preserved
loop-i-preserved c =
    let h = c.requires in (
      omega (arith, c.loop-i-test.true),
      so_far_next h.1 c.loop-i.invariant.1 (next_on c.in_ok-cur.was c.thread_moves.ensures),
    )

pub returns : goal.returns
returns c =
    let a = c.args in
    let h = c.requires in
    let m = c.loop-i in
    let long = counted a.e.threads a.e.count
    c.well_formed.1.1.1.0.1.1.1.1.0.1.0.1 h.5 in
    so_far_all h.1 m.invariant.1 h.6 (omega (arith, long, c.loop-i-test.false))
