-- `choose_rest` goes up from place to place, so the last member of each class that is not awake stays.
use mathlib.Core.Logic.{⊎_elim}
use borrow.Author.Tests.{eqb-true, eqb-false}
use Rattle.place_sets.specs.PlaceSets.{place_digit}
use Rattle.class_splits.specs.ChosenPlaces.{chosen_class}
use Rattle.round_steps.specs.ChosenMembers.{Rechosen, rechosen_pass, rechosen_next}
use native.Mathlib.Omega.{arith}
use Prim.Native.Nat.{◌+◌}
use mathlib.Core.Path.{sym, ◌∙◌}
use Rattle.round_steps.proofs.choose_rest.Goals as goal

pub loop-i-preserved : goal.loop-i-preserved
loop-i-preserved c =
    let g = c.args in
    let l = c.loop-i in
    let h = c.has_place in
    let x : Rechosen g.work.now g.n g.awake.now (l.i + 1) c.if-not-has_place.work =
    ⊎_elim (λ z. rw z.work-is
    (rechosen_next g.work.now g.n g.awake.now l.i l.work l.invariant
    (eqb-false (place_digit g.awake.now 0 l.i) 1 (sym h.ensures ∙ z.if-not-has_place.true))
    c.requires.1 z.class_at-c.result (z.class_at-c.ensures ∙ chosen_class l.invariant l.i (omega arith))
    (omega (arith, z.class_at-c.ensures, chosen_class l.invariant l.i (omega arith), c.requires.2 l.i c.loop-i-test.true))))
    (λ z. rw z.work-is
    (rechosen_pass g.work.now g.n g.awake.now l.i l.work l.invariant
    (eqb-true (place_digit g.awake.now 0 l.i) 1 (sym h.ensures ∙ z.if-not-has_place.false))))
    c.if-not-has_place.branch-raw in
    x
