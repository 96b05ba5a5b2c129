-- `take_move` takes the first move of the left that tells, and that of the right only where the left has none.
use Rattle.trail_search.specs.TakenTests.{takes_left, takes_right}
use Rattle.trail_search.proofs.take_move.Goals as goal

pub returns-in-Some : goal.returns-in-Some
returns-in-Some c =
    let g = c.args in
    let f = c.first_move in
    let h = c.in-Some.ensures in
    takes_left g.work.now g.n g.last g.r g.p g.q c.in-Some.j f.result h.0 h.1 f.ensures

pub returns : goal.returns
returns c =
    let g = c.args in
    let f = c.first_move-2 in
    let h = c.in_ok-k.ensures in
    takes_right g.work.now g.n g.last g.r g.p g.q c.in_default.ensures c.in_ok-k.k f.result h.0 h.1 f.ensures
