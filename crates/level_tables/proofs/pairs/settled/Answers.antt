-- A slot that is taken is asked for its pair.
use mathlib.Core.Path.{sym, ap, ◌∙◌}
use Prim.Native.Nat.{ℕ}
use lib.Dec.{eqb}
use borrow.Author.Tests.{ne_eqb}
use Rattle.level_tables.specs.PairLaws.{settled_free, settled_second, settled_not}
use Rattle.level_tables.proofs.pairs.settled.Goals as goal

pub returns-then-held-eq0 : goal.returns-then-held-eq0
returns-then-held-eq0 c = sym (settled_free _ _ _ _ _ (sym c.number_at-held.ensures ∙ c.if-held-eq0.true))

pub returns-then-first-a : goal.returns-then-first-a
returns-then-first-a c =
    let a = c.args in
    let held = c.number_at-held.ensures in
    let taken = c.if-held-eq0.false in
    ap (λ (x : ℕ). eqb x a.b) c.second.ensures
    ∙ sym (settled_second a.w.now a.base a.slot a.a a.b held taken (sym c.first.ensures ∙ c.if-first-a.true))

pub returns-else-first-a : goal.returns-else-first-a
returns-else-first-a c =
    let a = c.args in
    let held = c.number_at-held.ensures in
    let taken = c.if-held-eq0.false in
    ne_eqb _ _ c.if-first-a.false
    ∙ sym (settled_not a.w.now a.base a.slot a.a a.b held taken (λ e. c.if-first-a.false (c.first.ensures ∙ e)))
