-- `answered_in` tries the moves of q in turn: none of those passed answers.
use native.Mathlib.Omega.{arith}
use Rattle.telling_moves.specs.TrailTests.{answered_first, answered_next, answered_hit, move_of_lem, move_fits}
use Rattle.telling_moves.proofs.answered_in.Goals as goal

pub loop-k-init : goal.loop-k-init
loop-k-init c =
    let g = c.args in
    answered_first g.work.now g.last g.r g.q g.y

pub answers_in-requires : goal.answers_in-requires
answers_in-requires c =
    let p = c.requires in
    let g = c.args in
    let f = c.first_move-first in
    let t = c.move_total-total in
    let l = c.loop-k in
    let o = move_of_lem g.work.now p.n g.q f.result l.k t.result p.right f.ensures t.ensures (omega arith) in
    let m = move_fits p.follows o in
    record { n = p.n; follows = p.follows; left = p.left; right = m.target }

pub returns-then-answers_in : goal.returns-then-answers_in
returns-then-answers_in c =
    let g = c.args in
    let f = c.first_move-first in
    let t = c.move_total-total in
    let l = c.loop-k in
    answered_hit g.work.now g.last g.r g.q g.y f.result t.result f.ensures t.ensures l.k
    c.answers_in.result
    (omega arith) c.answers_in.ensures c.if-answers_in.true

pub loop-k-preserved : goal.loop-k-preserved
loop-k-preserved c =
    let g = c.args in
    let f = c.first_move-first in
    let t = c.move_total-total in
    let l = c.loop-k in
    answered_next g.work.now g.last g.r g.q g.y f.result t.result f.ensures t.ensures l.k
    c.answers_in.result
    (omega arith) l.invariant c.answers_in.ensures c.if-answers_in.false
