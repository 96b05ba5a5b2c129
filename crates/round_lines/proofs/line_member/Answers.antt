-- `line_member` judges each move of the member in turn, and ends with as many lines as its irredundant moves have.
use mathlib.Core.List.{List}
use Rattle.work_layout.specs.SetLayout.{first_move}
use Rattle.dominators.specs.SliceShapes.{SpanFits}
use Rattle.round_lines.specs.MemberLinesFound.{lining_first, lining_next, member_done}
use mathlib.Core.Path.{subst, sym}
use native.Mathlib.Omega.{arith}
use Prim.Native.Nat.{ℕ}
use Rattle.round_lines.proofs.line_member.Goals as goal

pub loop-j-init : goal.loop-j-init
loop-j-init c =
    let g = c.args in
    let w : List ℕ = g.work.now in
    let f = c.first_move-first in
    let t = c.move_total-total in
    let s = subst (λ (a : ℕ). SpanFits w g.n a t.result) (sym f.ensures)
    (subst (λ (a : ℕ). SpanFits w g.n (first_move w g.i) a) (sym t.ensures) (c.requires.0.spans g.i c.requires.1)) in
    (s, lining_first w g.n f.result t.result s)

pub loop-j-preserved : goal.loop-j-preserved
loop-j-preserved c =
    let g = c.args in
    let l = c.loop-j in
    let f = c.first_move-first in
    let t = c.move_total-total in
    let m = c.line_move-end in (
      l.invariant.0,
      lining_next g.work.now g.n f.result t.result l.invariant.0 l.work l.end l.j l.invariant.1 (omega arith) m.new.work
          m.result m.ensures,
    )

pub returns : goal.returns
returns c =
    let g = c.args in
    let l = c.loop-j in
    let f = c.first_move-first in
    let t = c.move_total-total in
    member_done g.work.now g.n g.i f.result t.result c.requires.1 (c.requires.0.spans g.i c.requires.1) f.ensures t.ensures
    l.work l.end l.j l.invariant.1 (omega arith)
