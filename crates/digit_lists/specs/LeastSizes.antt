-- The least number of facts: of the places of a word, layer by layer, and of the marked sets, word by word.
use Rattle.std.specs.Prelude.{◌≡◌, List, ℕ, ◌+◌, ◌*◌, ◌/◌, ◌%◌, ◌^◌, ◌≤◌, ◌<◌, min, eqb, ltb, get_or, Option, Some, None}
use Rattle.std.proofs.Common.{sym, ap, ap₂, ◌∙◌, arith, eqb-true, ltb-true, ltb-false}
use Rattle.std.specs.Int.Bits.{bit_and}
use Rattle.std.proofs.lemmas.Nat.{and_le_l}
use Rattle.std.specs.Int.Count.{count_trailing_zeros}
use Rattle.std.proofs.lemmas.Bool.{eqb-false}
use Rattle.set_digits.specs.TestLaws.{Tested, passes, fails, tested}
use Rattle.set_digits.specs.FactSets.{digit}
use Rattle.set_digits.specs.FactSetLaws.{zero_digit, digit_and}
use Rattle.place_sets.specs.DigitLaws.{lowest, digit_le}
use Rattle.set_digits.specs.OrderedSearch.{fact_count}
use Rattle.set_digits.specs.SizeLaws.{count_most}
use Rattle.set_digits.specs.SetDigits.{bit, mark}
use Rattle.digit_lists.specs.DigitLists.{PlacesOfSize, FirstLayer, LeastSize, lesser}
use Rattle.digit_lists.specs.SizesInWord.{count_in_word}

-- ---- the places of a word
-- each place with digit 1 has j facts or more
abbrev pub NoneFewer : ℕ → ℕ → Type 0
NoneFewer x j = (p : ℕ) → p < 32 → digit x p ≡ 1 → j ≤ fact_count 5 p

module _ (x j : ℕ) (fewer : NoneFewer x j) where
  -- where no place of a layer has digit 1, one fact more
  pub layer_none : (y : ℕ) → PlacesOfSize j y → bit_and x y ≡ 0 → NoneFewer x (j + 1)
  layer_none y d e p l one = go (tested (eqb (fact_count 5 p) j))
    where
      go : Tested (eqb (fact_count 5 p) j) → j + 1 ≤ fact_count 5 p
      go (passes t) =
          let has : digit y p ≡ 1 = d.digits p l ∙ ap bit t in
          let no : digit (bit_and x y) p ≡ 0 = ap (λ (z : ℕ). digit z p) e ∙ zero_digit p in
          absurd (omega (arith, has, no, digit_and x y p, one))
      go (fails t) = omega (arith, fewer p l one, eqb-false (fact_count 5 p) j t)

  -- where one has, that many facts
  pub layer_first : (y : ℕ) → j ≤ 5 → x < 2 ^ 32 → PlacesOfSize j y → 0 < bit_and x y → FirstLayer x j
  layer_first y few h d e =
      let z : ℕ = bit_and x y in
      let low = lowest 32 z e (omega (arith, and_le_l x y)) in
      let p : ℕ = count_trailing_zeros 32 z in
      let both : min (digit x p) (digit y p) ≡ 1 = sym (digit_and x y p) ∙ low.1.one in
      let has : digit y p ≡ 1 = omega (arith, both, digit_le y p) in
      record { few = few; below = fewer; some = (p, low.0, omega (arith, both, digit_le x p), go p low.0 has (tested (eqb (fact_count 5 p) j))) }
    where
      go : (p : ℕ) → p < 32 → digit y p ≡ 1 → Tested (eqb (fact_count 5 p) j) → fact_count 5 p ≡ j
      go p l one (passes t) = eqb-true (fact_count 5 p) j t
      go p l one (fails t) = let no : digit y p ≡ 0 = d.digits p l ∙ ap bit t in absurd (omega arith)

-- the last layer is left
pub layer_last : (x j : ℕ) → NoneFewer x j → j ≡ 5 → 0 < x → x < 2 ^ 32 → FirstLayer x j
layer_last x j fewer e more h =
    let low = lowest 32 x more h in
    let p : ℕ = count_trailing_zeros 32 x in
    record { few = omega arith; below = fewer; some = (p, low.0, low.1.one, omega (arith, count_most 5 p, fewer p low.0 low.1.one)) }

-- ---- the marked sets
-- of no word
pub least_none : (w : List ℕ) (left : ℕ) → LeastSize w left 0 None
least_none w left = λ s h m. absurd (omega arith)

module _ (w : List ℕ) (left i : ℕ) where
  -- of one more word, which is empty
  pub least_empty : (r : Option ℕ) → LeastSize w left i r → get_or w (left + i) 0 ≡ 0 → LeastSize w left (i + 1) r
  least_empty r least e = go r least
    where
      lower : (s : ℕ) → s < 32 * (i + 1) → mark w left s ≡ 1 → Tested (ltb s (32 * i)) → s < 32 * i
      lower s h m (passes t) = ltb-true s (32 * i) t
      lower s h m (fails t) =
          let word : s / 32 ≡ i = omega (arith, ltb-false s (32 * i) t) in
          let no : mark w left s ≡ 0 =
          ap (λ (j : ℕ). digit (get_or w (left + j) 0) (s % 32)) word ∙ ap (λ (x : ℕ). digit x (s % 32)) e ∙ zero_digit (s % 32) in
          absurd (omega arith)

      go : (r : Option ℕ) → LeastSize w left i r → LeastSize w left (i + 1) r
      go (Some r) h =
          let a = h.1 in
          (λ s l m. h.0 s (lower s l m (tested (ltb s (32 * i)))) m, (a.0, omega (arith, a.1), a.2, a.3))
      go None h = λ s l m. h s (lower s l m (tested (ltb s (32 * i)))) m

  module _ (j : ℕ) (few : i < 2 ^ 11) (first : FirstLayer (get_or w (left + i) 0) j) where
    -- a marked set of the word has no fewer facts
    word_below : (s : ℕ) → 32 * i ≤ s → s < 32 * (i + 1) → mark w left s ≡ 1 → fact_count 16 i + j ≤ fact_count 16 s
    word_below s l h m =
        let word : s / 32 ≡ i = omega arith in
        let whole : s ≡ 32 * i + s % 32 = omega arith in
        let one : digit (get_or w (left + i) 0) (s % 32) ≡ 1 = sym (ap (λ (k : ℕ). digit (get_or w (left + k) 0) (s % 32)) word) ∙ m in
        let count : fact_count 16 s ≡ fact_count 16 i + fact_count 5 (s % 32) =
        ap (fact_count 16) whole ∙ count_in_word i (s % 32) few (omega arith) in
        omega (arith, count, first.below (s % 32) (omega arith) one)

    -- and one has so many
    word_some : (s : ℕ) × (s < 32 * (i + 1)) × (mark w left s ≡ 1) × (fact_count 16 s ≡ fact_count 16 i + j)
    word_some =
        let a = first.some in
        let p : ℕ = a.0 in
        let word : (32 * i + p) / 32 ≡ i = omega (arith, a.1) in
        let place : (32 * i + p) % 32 ≡ p = omega (arith, a.1) in (
          32 * i + p,
          omega (arith, a.1),
          ap₂ (λ (k q : ℕ). digit (get_or w (left + k) 0) q) word place ∙ a.2,
          count_in_word i p few a.1 ∙ ap (λ (m : ℕ). fact_count 16 i + m) a.3,
        )

    -- of one more word, which is not empty
    pub least_word : (r : Option ℕ) → LeastSize w left i r → LeastSize w left (i + 1) (Some (lesser (fact_count 16 i + j) r))
    least_word (Some r) h = (λ s l m. below s l m (tested (ltb s (32 * i))), some (tested (ltb (fact_count 16 i + j) r)))
      where
        below : (s : ℕ) → s < 32 * (i + 1) → mark w left s ≡ 1 → Tested (ltb s (32 * i)) → min (fact_count 16 i + j) r ≤ fact_count 16 s
        below s l m (passes t) = omega (arith, h.0 s (ltb-true s (32 * i) t) m)
        below s l m (fails t) = omega (arith, word_below s (ltb-false s (32 * i) t) l m)

        some : Tested (ltb (fact_count 16 i + j) r)
            → (s : ℕ) × (s < 32 * (i + 1)) × (mark w left s ≡ 1) × (fact_count 16 s ≡ min (fact_count 16 i + j) r)
        some (passes t) =
            let a = word_some in (a.0, a.1, a.2, omega (arith, a.3, ltb-true (fact_count 16 i + j) r t))
        some (fails t) =
            let a = h.1 in (a.0, omega (arith, a.1), a.2, omega (arith, a.3, ltb-false (fact_count 16 i + j) r t))
    least_word None h = (λ s l m. below s l m (tested (ltb s (32 * i))), word_some)
      where
        below : (s : ℕ) → s < 32 * (i + 1) → mark w left s ≡ 1 → Tested (ltb s (32 * i)) → fact_count 16 i + j ≤ fact_count 16 s
        below s l m (passes t) = absurd (h s (ltb-true s (32 * i) t) m)
        below s l m (fails t) = word_below s (ltb-false s (32 * i) t) l m
