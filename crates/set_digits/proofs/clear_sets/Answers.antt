-- The words below w are cleared; those that include `high` are visited in ascending order.
use native.Mathlib.Omega.{arith}
use mathlib.Core.Path.{◌≡◌, ap₂, ◌∙◌}
use mathlib.Core.Bool.{true, cond, not, ◌&&◌}
use Prim.Native.Nat.{◌+◌, ◌/◌, ◌%◌}
use lib.ListN.{get_or}
use Rattle.search_laws.specs.FactsOutside.{outside}
use Rattle.search_laws.specs.Stores.{includes}
use Rattle.set_digits.specs.SetDigits.{mark}
use Rattle.set_digits.specs.WordDigits.{places_between, between_digits, digit_cleared, has_includes, includes_passes, includes_fails}
use Rattle.set_digits.specs.FilledWords.{filled_later, filled_marked}
use Rattle.set_digits.specs.ClearedWords.{cleared_first, cleared_next}
use Rattle.set_digits.specs.SetsAbove.{has_or, above_next}
use lib.Bits.{or_self}
use Rattle.set_digits.proofs.clear_sets.Goals as goal
use Rattle.set_digits.proofs.clear_sets.Goals.{then-w-other, else-w-other}

pub loop-w-init : goal.loop-w-init
loop-w-init c =
    let b = c.args in
    (or_self (b.a / 32), cleared_first b.work.now b.at c.above-with.result c.above-stay.result (b.a / 32) (b.b / 32) b.words)

pub loop-w-smaller : goal.loop-w-smaller
loop-w-smaller c =
    let b = c.args in
    omega (arith, above_next (b.a / 32) c.loop-w.w)

pub loop-w-preserved : goal.loop-w-preserved
loop-w-preserved c =
    let l = c.loop-w in
    let b = c.args in
    let v = b.work.now in
    let with = c.above-with.result in
    let stay = c.above-stay.result in
    let above : includes l.w (b.a / 32) ≡ true = has_includes (b.a / 32) l.w l.invariant.0 in
    let places : c.if-w-other.gone ≡ places_between with stay (b.a / 32) (b.b / 32) l.w =
    elim c.if-w-other.branch [
      | then-w-other t ↦ rw (above, includes_passes l.w (b.b / 32) t.if-w-other.true) (t.gone-is ∙ t.without-gone.ensures)
      | else-w-other t ↦ rw (above, includes_fails l.w (b.b / 32) t.if-w-other.false) t.gone-is
    ] in (
      has_or (b.a / 32) (l.w + 1),
      cleared_next v b.at with stay (b.a / 32) (b.b / 32) l.w b.words c.without.result l.invariant.1 l.invariant.0 (omega arith) (omega arith)
          (c.without.ensures ∙ ap₂ outside places (filled_later l.invariant.1 l.w (omega arith))),
    )

pub returns : goal.returns
returns c =
    let b = c.args in
    let v = b.work.now in
    let p = c.above-with in
    let q = c.above-stay in
    filled_marked c.loop-w.invariant.1 b.words (omega arith) (λ s. cond (includes s b.a && not (includes s b.b)) 0 (mark v b.at s))
    (λ s h.
    digit_cleared (places_between p.result q.result (b.a / 32) (b.b / 32) (s / 32)) (get_or v (b.at + s / 32) 0) (s % 32)
    (includes s b.a && not (includes s b.b)) (between_digits b.a b.b p.result q.result p.ensures q.ensures s))
