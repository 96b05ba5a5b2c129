-- `split_listed` gives one listed member after the other its class of the next round; all lines were worked out before.
use mathlib.Core.List.{List}
use lib.ListN.{get_or}
use lib.Dec.{eqb}
use borrow.Author.Tests.{eqb-true, eqb-false}
use Rattle.work_layout.specs.TestLaws.{Tested, tested, passes, fails}
use Rattle.class_splits.specs.SetLinesFound.{InList}
use Rattle.round_steps.specs.AwakeMembers.{list_new}
use Rattle.round_steps.specs.SplitRounds.{splitting_next}
use native.Mathlib.Omega.{arith}
use Prim.Native.Nat.{ℕ, ◌+◌, ◌<◌}
use mathlib.Core.Path.{◌≡◌, refl, sym, ap, ◌∙◌}
use Rattle.round_steps.proofs.split_listed.Goals as goal

pub loop-j-preserved : goal.loop-j-preserved
loop-j-preserved c =
    let g = c.args in
    let l = c.loop-j in
    let h = c.loop-j-test.true in
    let s = c.split_member-count in
    let list : List ℕ = g.list.now in
    let x = splitting_next g.work.now g.n g.round g.old l.work l.count (InList list l.j) l.invariant
    (get_or list l.j 0) c.requires.0 c.requires.1 (c.requires.5.below l.j h) c.requires.3.known (list_new c.requires.5 l.j h)
    (InList list (l.j + 1)) (l.j, omega arith, refl) (λ i y. (y.0, omega (arith, y.1), y.2)) (λ i y d. before list l.j i y d)
    c.requires.2 s.new.work s.result s.ensures in
    x
  where
    before : (list : List ℕ) (j i : ℕ) → InList list (j + 1) i → (i ≡ get_or list j 0 → ⊥) → InList list j i
    before list j i y d = (y.0, less (tested (eqb y.0 j)), y.2)
      where
        less : Tested (eqb y.0 j) → y.0 < j
        less (passes e) = absurd (d (sym y.2 ∙ ap (λ (z : ℕ). get_or list z 0) (eqb-true y.0 j e)))
        less (fails e) = omega (arith, y.1, eqb-false y.0 j e)
