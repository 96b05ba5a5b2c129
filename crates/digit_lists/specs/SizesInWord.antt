-- The sets of a word that have so many facts: the word's facts and the place's.
use Rattle.std.specs.Prelude.{◌≡◌, refl, Bool, true, false, ◌&&◌, ℕ, ◌+◌, ◌*◌, ◌^◌, ◌≤◌, ◌<◌, min, eqb}
use Rattle.std.proofs.Common.{sym, ap, ◌∙◌, arith, eqb-true, eq-eqb, ne_eqb}
use Rattle.std.specs.Int.Bits.{bit_and}
use Rattle.set_digits.specs.TestLaws.{same_test}
use Rattle.set_digits.specs.FactSets.{digit}
use Rattle.set_digits.specs.FactSetLaws.{zero_digit, digit_and}
use Rattle.place_sets.specs.DigitLaws.{digit_le}
use Rattle.set_digits.specs.OrderedSearch.{fact_count}
use Rattle.set_digits.specs.SizeLaws.{count_most}
use Rattle.set_digits.specs.SetDigits.{bit}
use Rattle.digit_lists.specs.DigitLists.{PlacesOfSize, SizeInWord}
use Rattle.digit_lists.specs.SizeSplit.{count_join, count_wider}

-- the set at place p of word i has the facts of both numbers
pub count_in_word : (i p : ℕ) → i < 2 ^ 11 → p < 32 → fact_count 16 (32 * i + p) ≡ fact_count 16 i + fact_count 5 p
count_in_word i p h l =
    let e : 32 * i + p ≡ i * 2 ^ 5 + p = omega arith in
    ap (fact_count 16) e
    ∙ count_join 5 11 i p l
    ∙ ap (λ (n : ℕ). n + fact_count 5 p) (sym (count_wider 11 16 i (omega arith) h))

-- no set of an empty word is marked
pub size_empty : (i k : ℕ) → SizeInWord 0 i k 0
size_empty i k = record { digits = λ p l. rw zero_digit (sym (fails (eqb (fact_count 16 (32 * i + p)) k))) }
  where
    fails : (b : Bool) → (b && false) ≡ false
    fails true = refl
    fails false = refl

module _ (x i k : ℕ) (h : i < 2 ^ 11) where
  -- no place has the missing number of facts
  size_none : ((p : ℕ) → p < 32 → fact_count 16 i + fact_count 5 p ≡ k → ⊥) → SizeInWord x i k 0
  size_none none =
      record {
        digits = λ p l.
            rw (zero_digit p, ne_eqb (fact_count 16 (32 * i + p)) k (λ e. none p l (sym (count_in_word i p h l) ∙ e)));
      }

  -- the word's number has too many facts
  pub size_more : k < fact_count 16 i → SizeInWord x i k 0
  size_more l = size_none (λ p b e. omega arith)

  -- the word's number has so few facts that no place makes up for them
  pub size_fewer : fact_count 16 i + 5 < k → SizeInWord x i k 0
  size_fewer l = size_none (λ p b e. omega (arith, count_most 5 p))

  -- else the places with the facts that the word's number lacks
  pub size_layer : (j y : ℕ) → fact_count 16 i + j ≡ k → PlacesOfSize j y → SizeInWord x i k (bit_and x y)
  size_layer j y e d =
      record {
        digits = λ p l.
            ap (λ (z : ℕ). eqb z 1) (digit_and x y p ∙ ap (min (digit x p)) (d.digits p l))
            ∙ go (eqb (fact_count 5 p) j) (digit x p) (digit_le x p)
            ∙ ap (λ (b : Bool). b && eqb (digit x p) 1) (test p l);
      }
    where
      test : (p : ℕ) → p < 32 → eqb (fact_count 5 p) j ≡ eqb (fact_count 16 (32 * i + p)) k
      test p l =
          same_test (eqb (fact_count 5 p) j) (eqb (fact_count 16 (32 * i + p)) k)
          (λ t. eq-eqb (fact_count 16 (32 * i + p)) k (omega (arith, count_in_word i p h l, eqb-true (fact_count 5 p) j t)))
          (λ t. eq-eqb (fact_count 5 p) j (omega (arith, count_in_word i p h l, eqb-true (fact_count 16 (32 * i + p)) k t)))

      go : (t : Bool) (z : ℕ) → z ≤ 1 → eqb (min z (bit t)) 1 ≡ (t && eqb z 1)
      go true z s = let e : min z 1 ≡ z = omega arith in ap (λ (a : ℕ). eqb a 1) e
      go false z s = ne_eqb (min z 0) 1 (λ q. omega arith)
