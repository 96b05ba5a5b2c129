-- Each turn loses nothing that is in reach and leaves less to do: once no node is left to visit, all that was in reach is collected.
use native.Mathlib.Omega.{arith}
use Rattle.node_walk.specs.NodeVisitLaws.{onward_next, onward_over, onward_end, turned_on, turned_over}
use Rattle.node_walk.proofs.walk.Goals as goal

pub returns-in_err-cur : goal.returns-in_err-cur
returns-in_err-cur c =
    rw c.from_residual.ensures
    (onward_over c.requires.1 c.loop-cur.invariant (turned_over c.in_err-cur.was c.visit.ensures))

pub loop-cur-preserved : goal.loop-cur-preserved
loop-cur-preserved c =
    onward_next c.requires.1 c.loop-cur.invariant (turned_on c.in_ok-cur.was c.visit.ensures)

pub returns : goal.returns
returns c =
    let m = c.loop-cur in
    onward_end c.requires.1 m.invariant (omega (arith, c.loop-cur-test.false))
