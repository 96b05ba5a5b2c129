-- `dominator_from` tries the moves from k on in turn: those passed do not dominate, and the first that is not passed does.
use Rattle.dominators.specs.DominatorSearch.{passing_next, looked_hit, looked_none}
use native.Mathlib.Omega.{arith}
use Rattle.dominators.proofs.dominator_from.Goals as goal

pub returns-in-Some : goal.returns-in-Some
returns-in-Some c =
    let g = c.args in
    let l = c.loop-i in
    looked_hit g.work.now g.n g.first g.j g.k l.i c.in-Some.q c.requires.few (omega arith) l.invariant c.in-Some.ensures

pub loop-i-preserved : goal.loop-i-preserved
loop-i-preserved c =
    let g = c.args in
    let l = c.loop-i in
    passing_next g.work.now g.n g.first g.j g.k l.i (omega arith) l.invariant c.in_default.ensures

pub returns : goal.returns
returns c =
    let g = c.args in
    let l = c.loop-i in
    looked_none g.work.now g.n g.first g.j g.k l.i (omega arith) l.invariant
