-- `reply_to` goes through the moves of q: the best of those passed is kept.
use native.Mathlib.Omega.{arith}
use Rattle.telling_moves.specs.TrailTests.{move_of_lem, move_fits}
use Rattle.trail_replies.specs.ReplyTests.{best_first, best_next}
use Rattle.trail_replies.proofs.reply_to.Goals as goal

pub loop-k-init : goal.loop-k-init
loop-k-init c =
    let g = c.args in
    best_first g.work.now g.last g.y g.q

pub better-best-requires : goal.better-best-requires
better-best-requires c =
    let p = c.requires in
    let g = c.args in
    let f = c.first_move-first in
    let t = c.move_total-total in
    let l = c.loop-k in
    let o = move_of_lem g.work.now p.n g.q f.result l.k t.result p.right f.ensures t.ensures (omega arith) in
    let m = move_fits p.follows o in
    (record { n = p.n; follows = p.follows; left = p.left; right = m.target }, l.invariant.fits)

pub loop-k-preserved : goal.loop-k-preserved
loop-k-preserved c =
    let p = c.requires in
    let g = c.args in
    let f = c.first_move-first in
    let t = c.move_total-total in
    let l = c.loop-k in
    let o = move_of_lem g.work.now p.n g.q f.result l.k t.result p.right f.ensures t.ensures (omega arith) in
    let m = move_fits p.follows o in
    best_next g.work.now g.last g.y g.q f.result t.result f.ensures t.ensures l.best l.k c.better-best.result
    l.invariant (record { n = p.n; follows = p.follows; left = p.left; right = m.target }) c.better-best.ensures
