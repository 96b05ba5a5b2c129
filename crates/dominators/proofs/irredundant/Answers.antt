-- `irredundant` leaves what is kept where that still dominates; else the moves up to it are passed, and it looks on from there.
use mathlib.Core.List.{List}
use lib.ListN.{get_or}
use Rattle.dominators.specs.DominatorSearch.{judged_still, judged_next}
use native.Mathlib.Omega.{arith}
use Prim.Native.Nat.{ℕ, ◌+◌, ◌%◌}
use mathlib.Core.Path.{refl}
use Rattle.work_layout.specs.WorkLayout.{moves_at, dominators_at}
use Rattle.dominators.proofs.irredundant.Goals as goal

pub returns-then-still_dominated : goal.returns-then-still_dominated
returns-then-still_dominated c =
    let g = c.args in
    let w : List ℕ = g.work.now in
    let s = c.still_dominated in
    judged_still w g.n g.first g.j (get_or w (dominators_at + g.first + g.j) 0) (get_or w (moves_at + g.first + g.j) 0 % 65536) refl refl
    (c.requires.kept g.j (omega arith)) s.result s.ensures c.if-still_dominated.true

pub returns : goal.returns
returns c =
    let g = c.args in
    let w : List ℕ = g.work.now in
    let s = c.still_dominated in
    judged_next w g.n g.first g.j (get_or w (dominators_at + g.first + g.j) 0) (get_or w (moves_at + g.first + g.j) 0 % 65536) refl refl
    (c.requires.kept g.j (omega arith)) s.result s.ensures c.if-still_dominated.false c.look_from.result
    c.dominator_from-next.result c.look_from.ensures c.dominator_from-next.ensures (omega (arith, c.requires.span, c.requires.long))
    (omega (arith, c.requires.span))
