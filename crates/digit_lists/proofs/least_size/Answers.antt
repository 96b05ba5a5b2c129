-- `least_size` has the least number of facts of the marked sets of the first i words.
use mathlib.Core.Path.{◌≡◌}
use Prim.Native.Nat.{◌+◌}
use native.Mathlib.Omega.{arith}
use lib.ListN.{get_or}
use borrow.Author.Rules.{rules}
use Rattle.digit_lists.specs.LeastSizes.{least_empty, least_word}
use Rattle.digit_lists.proofs.least_size.Goals as goal
use Rattle.digit_lists.proofs.least_size.Goals.{then-x-ne0, else-x-ne0}

pub loop-i-preserved : goal.loop-i-preserved
loop-i-preserved c =
    let g = c.args in
    let l = c.loop-i in
    elim c.if-x-ne0.branch [
      | then-x-ne0 w ↦
          let a = w.lesser_size.ensures in
          (search rules, rw (w.least-is, a.2) (least_word g.work.now g.left l.i a.0 (search rules) a.1 l.least l.invariant.1))
      | else-x-ne0 w ↦
          let none : get_or g.work.now (g.left + l.i) 0 ≡ 0 = omega (arith, w.if-x-ne0.false) in
          (search rules, rw w.least-is (least_empty g.work.now g.left l.i l.least l.invariant.1 none))
    ]
