-- `list_word` goes from the lowest digit of the word up: the sets of the digits taken out are listed, and those of the rest follow.
use mathlib.Core.Path.{◌≡◌, sym, ap, ◌∙◌, subst}
use mathlib.Core.List.{List, [], ◌∷◌, ◌++◌, append-nil}
use Prim.Native.Nat.{ℕ, ◌+◌, ◌-◌, ◌*◌, ◌^◌, ◌<◌}
use native.Mathlib.Omega.{arith}
use lib.ListN.{length, length-append}
use lib.Seq.{append_snoc}
use lib.Bits.{bit_and, and_le_r}
use lib.Count.{count_trailing_zeros}
use Rattle.place_sets.specs.DigitLaws.{lowest}
use Rattle.digit_lists.specs.DigitLists.{word_sets}
use Rattle.digit_lists.specs.ListedBehind.{ListedBehind, listed_one, listed_then}
use Rattle.digit_lists.specs.WordLists.{word_empty, word_first}
use Rattle.digit_lists.proofs.list_word.Goals as goal

-- the set of the lowest digit left is the next one
next_set : (i rest : ℕ) → 0 < rest → rest < 2 ^ 32
    → word_sets i rest ≡ (32 * i + count_trailing_zeros 32 rest) ∷ word_sets i (bit_and rest (rest - 1))
next_set i rest some fits =
    let low = lowest 32 rest some fits in
    word_first i rest (count_trailing_zeros 32 rest) (bit_and rest (rest - 1)) low.0 low.1

pub bounds-work-at : goal.bounds-work-at
bounds-work-at c =
    let l = c.loop-rest in
    let v = l.invariant in
    let next = next_set c.args.i l.rest (omega arith) v.0 in
    omega (arith, ap length next, simp length-append at (ap length v.2), v.3.0, v.3.2.long, c.requires)

pub loop-rest-preserved : goal.loop-rest-preserved
loop-rest-preserved c =
    let g = c.args in
    let l = c.loop-rest in
    let v = l.invariant in
    let a : ℕ = 32 * g.i + count_trailing_zeros 32 l.rest in
    let left : List ℕ = word_sets g.i (bit_and l.rest (l.rest - 1)) in
    let next = next_set g.i l.rest (omega arith) v.0 in
    let room : g.at + l.m < length l.work =
    omega (arith, ap length next, simp length-append at (ap length v.2), v.3.0, v.3.2.long, c.requires) in (
      omega (arith, and_le_r l.rest (l.rest - 1)),
      v.1 ++ (a ∷ []),
      append_snoc v.1 a left ∙ ap (λ (r : List ℕ). v.1 ++ r) (sym next) ∙ v.2,
      listed_then g.at g.n g.work.now v.1 l.m l.work (a ∷ []) (l.m + 1) _ v.3 (listed_one g.at l.m l.work a room),
    )

pub returns : goal.returns
returns c =
    let g = c.args in
    let l = c.loop-rest in
    let v = l.invariant in
    let e : l.rest ≡ 0 = omega arith in
    let all : v.1 ≡ word_sets g.i g.x =
    sym (append-nil v.1) ∙ ap (λ (r : List ℕ). v.1 ++ r) (sym (ap (word_sets g.i) e ∙ word_empty g.i)) ∙ v.2 in
    subst (λ (xs : List ℕ). ListedBehind g.at g.n g.work.now xs l.m l.work) all v.3
