-- The first w words are copied.
use borrow.Author.Rules.{rules}
use native.Mathlib.Omega.{arith}
use mathlib.Core.Path.{◌≡◌, ap, ap₂, ◌∙◌}
use mathlib.Core.Bool.{cond, not, ◌&&◌}
use Prim.Native.Nat.{◌+◌, ◌/◌, ◌%◌}
use lib.ListN.{get_or}
use lib.Bits.{bit_and}
use Rattle.search_laws.specs.FactsOutside.{outside}
use Rattle.search_laws.specs.Stores.{includes}
use Rattle.set_digits.specs.SetDigits.{mark}
use Rattle.set_digits.specs.WordDigits.{places_between, between_digits, digit_kept, includes_passes, includes_fails}
use Rattle.set_digits.specs.FilledWords.{filled_next, filled_before, filled_marked}
use Rattle.set_digits.proofs.copy_between.Goals as goal
use Rattle.set_digits.proofs.copy_between.Goals.{then-w-high, else-w-high, then-w-other, else-w-other}

pub loop-w-preserved : goal.loop-w-preserved
loop-w-preserved c =
    let l = c.loop-w in
    let b = c.args in
    let with = c.above-with.result in
    let asked = c.above-asked.result in
    let all : c.if-w-high.all ≡ cond (includes l.w (b.d / 32)) with 0 =
    elim c.if-w-high.branch [
      | then-w-high t ↦ rw (includes_passes l.w (b.d / 32) t.if-w-high.true) t.all-is
      | else-w-high t ↦ rw (includes_fails l.w (b.d / 32) t.if-w-high.false) t.all-is
    ] in
    let places : c.if-w-other.kept ≡ places_between with asked (b.d / 32) (b.c / 32) l.w =
    elim c.if-w-other.branch [
      | then-w-other t ↦ rw (includes_passes l.w (b.c / 32) t.if-w-other.true) (t.kept-is ∙ t.without-kept.ensures ∙ ap (outside asked) all)
      | else-w-other t ↦ rw (includes_fails l.w (b.c / 32) t.if-w-other.false) (t.kept-is ∙ all)
    ] in
    (search rules, filled_next l.invariant.1 _ (omega arith) (ap₂ bit_and (filled_before l.invariant.1 (b.from + l.w) (omega arith)) places))

pub returns : goal.returns
returns c =
    let b = c.args in
    let v = b.work.now in
    let p = c.above-with in
    let q = c.above-asked in
    filled_marked c.loop-w.invariant.1 b.words (omega arith) (λ s. cond (includes s b.d && not (includes s b.c)) (mark v b.from s) 0)
    (λ s h.
    digit_kept (get_or v (b.from + s / 32) 0) (places_between p.result q.result (b.d / 32) (b.c / 32) (s / 32)) (s % 32)
    (includes s b.d && not (includes s b.c)) (between_digits b.d b.c p.result q.result p.ensures q.ensures s))
