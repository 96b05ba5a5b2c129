-- `number_classes` chooses first members, then goes from place to place: numbers go up by first member, and tell apart what the classes told apart.
use Rattle.separations.specs.NumberedPlaces.{Numbering, numbering_class, numbering_next}
use Rattle.separations.specs.FirstMembers.{firsts_classed, firsts_chosen}
use Rattle.separations.specs.ReportClasses.{renumbered}
use Rattle.class_rounds.specs.ClassedPlaces.{classed_count}
use mathlib.Core.Path.{subst, ◌≡◌}
use native.Mathlib.Omega.{arith}
use Prim.Native.Nat.{ℕ}
use Rattle.separations.proofs.number_classes.Goals as goal

pub choose_first-requires : goal.choose_first-requires
choose_first-requires c =
    let p = c.requires in
    (p.few, p.long, (λ i l. omega (arith, p.classed.known i l, classed_count p.classed, p.few)))

pub number_class-count-requires : goal.number_class-count-requires
number_class-count-requires c =
    let g = c.args in
    let p = c.requires in
    let l = c.loop-i in
    let h = c.choose_first in
    let N = l.invariant in (
      omega (arith, p.few),
      omega (arith, p.few, N.few),
      numbering_class h.new.work g.n p.count (firsts_classed h.ensures p.few p.classed) (firsts_chosen h.ensures p.few)
          p.few (omega (arith, p.long, h.ensures.only.long)) l.i c.loop-i-test.true l.work l.count N,
      omega (arith, p.long, h.ensures.only.long),
    )

pub loop-i-preserved : goal.loop-i-preserved
loop-i-preserved c =
    let g = c.args in
    let p = c.requires in
    let l = c.loop-i in
    let h = c.choose_first in
    let s = c.number_class-count in
    numbering_next h.new.work g.n p.count (firsts_classed h.ensures p.few p.classed)
    (firsts_chosen h.ensures p.few) p.few (omega (arith, p.long, h.ensures.only.long)) l.i
    c.loop-i-test.true
    l.work l.count l.invariant s.new.work s.result s.ensures

pub returns : goal.returns
returns c =
    let g = c.args in
    let l = c.loop-i in
    let h = c.choose_first in
    let e : l.i ≡ g.n = omega arith in
    renumbered h.new.work g.n l.work l.count (subst (λ (z : ℕ). Numbering h.new.work g.n z l.work l.count) e l.invariant)
    g.work.now h.ensures
