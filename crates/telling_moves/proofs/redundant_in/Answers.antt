-- `redundant_in` tries the moves before the j-th in turn: none of those passed makes it redundant.
use native.Mathlib.Omega.{arith}
use Rattle.telling_moves.specs.TrailTests.{redundant_first, redundant_next, redundant_hit}
use Rattle.telling_moves.proofs.redundant_in.Goals as goal

pub loop-k-init : goal.loop-k-init
loop-k-init c =
    let g = c.args in
    redundant_first g.work.now g.n g.last g.r g.first g.j

pub returns-then-dominates_in : goal.returns-then-dominates_in
returns-then-dominates_in c =
    let g = c.args in
    let l = c.loop-k in
    redundant_hit g.work.now g.n g.last g.r g.first g.j l.k c.dominates_in.result (omega arith)
    c.dominates_in.ensures c.if-dominates_in.true

pub loop-k-preserved : goal.loop-k-preserved
loop-k-preserved c =
    let g = c.args in
    let l = c.loop-k in
    redundant_next g.work.now g.n g.last g.r g.first g.j l.k c.dominates_in.result (omega arith) l.invariant
    c.dominates_in.ensures c.if-dominates_in.false
