-- `add_label_of`: all moves with a label strictly below the one at place j stand before it, and where that move is the first with
-- its label none of those before it has it.
use mathlib.Core.Path.{subst, sym, ◌∙◌}
use Prim.Native.Nat.{ℕ}
use native.Mathlib.Omega.{arith}
use Rattle.third_rule.specs.ThirdRule.{Added, BeforePlace, NewLabel}
use Rattle.third_rule.specs.ThirdRuleLaws.{first_new, by_first}
use Rattle.third_rule.proofs.add_label_of.Goals as goal

pub add_to_all-requires : goal.add_to_all-requires
add_to_all-requires c =
    let g = c.args in (
      c.requires.0,
      c.requires.1,
      omega (arith, c.requires.2),
      subst (NewLabel g.work.now g.b g.s g.j) (sym c.label_at-label.ensures)
          (first_new c.requires.0 g.j c.requires.1 c.requires.2
          (sym c.first_with_label.ensures ∙ c.if-first_with_label.true)),
    )

pub returns-then-first_with_label : goal.returns-then-first_with_label
returns-then-first_with_label c =
    let g = c.args in
    let m = c.add_to_all in
    by_first g.b g.work.now g.s c.requires.0 g.j c.requires.1 m.new.work m.result
    (subst (λ (x : ℕ). Added (BeforePlace g.work.now g.b.first g.j x) g.b g.work.now g.s m.new.work m.result)
    c.label_at-label.ensures m.ensures)
