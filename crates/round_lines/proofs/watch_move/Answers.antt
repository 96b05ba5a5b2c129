-- `watch_move` puts the member into the set of the target, and into that of the kept member where there is one.
use Rattle.round_lines.specs.WatchingMembers.{watched_one, watched_both}
use native.Mathlib.Omega.{arith}
use Rattle.round_lines.proofs.watch_move.Goals as goal

pub returns-then-q-n : goal.returns-then-q-n
returns-then-q-n c =
    let g = c.args in
    let p = c.requires in
    let s = c.add_place in
    let t = c.add_place-then-q-n in
    watched_both g.work.now g.sets.now s.new.sets t.new.sets g.width g.n g.first g.j g.i s.ensures t.ensures
    p.3 (omega (arith, c.if-q-n.true, p.3)) p.4 p.6

pub returns-else-q-n : goal.returns-else-q-n
returns-else-q-n c =
    let g = c.args in
    let p = c.requires in
    let s = c.add_place in
    watched_one g.work.now g.sets.now s.new.sets g.width g.n g.first g.j g.i s.ensures (λ l. omega (arith, c.if-q-n.false))
    p.3 p.4 p.6
