-- Laws of the digits of a word, and of the places of a word that belong to sets which include one set and not another.
use Rattle.std.specs.Prelude.{◌≡◌, refl, Bool, true, false, cond, not, ◌&&◌, ℕ, zero, suc, ◌+◌, ◌-◌, ◌*◌, ◌/◌, ◌%◌, ◌^◌, ◌≤◌, ◌<◌, eqb, ltb}
use Rattle.std.proofs.Common.{sym, ap, ap₂, ◌∙◌, pow-suc, arith, pow_pos, shl_exact, ltb-true, lt-ltb, le-ltb, eqb-true, eq-eqb, ne_eqb}
use Rattle.std.specs.Int.Bits.{bit_and, bit_or, or_add_and}
use Rattle.std.proofs.lemmas.Nat.{and_comm}
use Rattle.search_laws.specs.TestLaws.{same_test}
use Rattle.search_laws.specs.FactSets.{digit}
use Rattle.search_laws.specs.FactsOutside.{outside}
use Rattle.search_laws.specs.Stores.{includes}
use Rattle.search_laws.specs.FactSetLaws.{digit_and, digit_or, digit_half, digit_zero, zero_digit}
use Rattle.search_laws.specs.OutsideLaws.{or_outside, outside_apart}
use Rattle.search_laws.specs.SupersetLaws.{includes_block}
use Rattle.set_digits.specs.SetDigits.{bit, PlacesAbove}

-- a digit is 0 or 1
pub digit_le : (n i : ℕ) → digit n i ≤ 1
unfolding digit
digit_le n i = omega arith

-- the digits of a that d has not
pub digit_outside : (d a i : ℕ) → digit (outside d a) i ≡ digit a i - digit d i
digit_outside d a i =
    omega (
      arith,
      digit_or d (outside d a) i,
      digit_or d a i,
      ap (λ (n : ℕ). digit n i) (or_outside d a),
      digit_and d (outside d a) i,
      ap (λ (n : ℕ). digit n i) (outside_apart d a),
      zero_digit i,
      digit_le d i,
      digit_le a i,
    )

-- the lowest k digits of 2 ^ k - 1 are 1
pub digit_ones : (k i : ℕ) → digit (2 ^ k - 1) i ≡ bit (ltb i k)
digit_ones zero i = rw (le-ltb i 0 (omega arith)) (zero_digit i)
digit_ones (suc k) zero = rw (lt-ltb 0 (suc k) (omega arith)) (digit_zero (2 ^ suc k - 1) ∙ omega (arith, pow-suc 2 k, pow_pos k))
digit_ones (suc k) (suc i) =
    sym (digit_half (2 ^ suc k - 1) i) ∙ ap (λ (n : ℕ). digit n i) (omega (arith, pow-suc 2 k, pow_pos k)) ∙ digit_ones k i
    ∙ ap bit
    (same_test (ltb i k) (ltb (suc i) (suc k)) (λ h. lt-ltb (suc i) (suc k) (omega (arith, ltb-true i k h)))
    (λ h. lt-ltb i k (omega (arith, ltb-true (suc i) (suc k) h))))

-- a digit is the outcome of the test whether it is 1
pub digit_bit : (n i : ℕ) → digit n i ≡ bit (eqb (digit n i) 1)
digit_bit n i = go (digit n i) (digit_le n i)
  where
    go : (x : ℕ) → x ≤ 1 → x ≡ bit (eqb x 1)
    go zero h = refl
    go (suc zero) h = refl
    go (suc (suc x)) h = absurd (omega arith)

-- the digits of x that g has not, by a test that says which digits g has
pub digit_cleared : (g x i : ℕ) (t : Bool) → digit g i ≡ bit t → digit (outside g x) i ≡ cond t 0 (digit x i)
digit_cleared g x i true e = omega (arith, digit_outside g x i, digit_le x i)
digit_cleared g x i false e = omega (arith, digit_outside g x i)

-- the digits of x that g has too
pub digit_kept : (x g i : ℕ) (t : Bool) → digit g i ≡ bit t → digit (bit_and x g) i ≡ cond t (digit x i) 0
digit_kept x g i true e = omega (arith, digit_and x g i, digit_le x i)
digit_kept x g i false e = omega (arith, digit_and x g i)

-- one shifted to the left inside a word
pub one_shifted : (n k : ℕ) → n < k → 1 * 2 ^ n % 2 ^ k ≡ 2 ^ n
one_shifted n k h = omega (arith, shl_exact {a = 1} 1 n k (omega arith) (omega arith))

-- ---- inclusion
-- a set that includes another has the union with it for its number
pub includes_has : (d v : ℕ) → includes v d ≡ true → bit_or d v ≡ v
includes_has d v h = omega (arith, eqb-true (bit_and d v) d h, or_add_and d v)

-- and the other way round
pub has_includes : (d v : ℕ) → bit_or d v ≡ v → includes v d ≡ true
has_includes d v h = eq-eqb (bit_and d v) d (omega (arith, or_add_and d v))

-- the test of the code where it passes
pub includes_passes : (v d : ℕ) → bit_and v d ≡ d → includes v d ≡ true
includes_passes v d e = eq-eqb (bit_and d v) d (and_comm d v ∙ e)

-- and where it fails
pub includes_fails : (v d : ℕ) → (bit_and v d ≡ d → ⊥) → includes v d ≡ false
includes_fails v d f = ne_eqb (bit_and d v) d (λ (e : bit_and d v ≡ d). f (and_comm v d ∙ e))

-- one set includes another where its word does and its place in the word does
pub includes_word : (s a : ℕ) → includes s a ≡ (includes (s / 32) (a / 32) && includes (s % 32) (a % 32))
includes_word s a =
    let e : s ≡ s / 32 * 2 ^ 5 + s % 32 = omega arith in
    let f : a ≡ a / 32 * 2 ^ 5 + a % 32 = omega arith in
    ap₂ includes e f ∙ includes_block 5 (s / 32) (a / 32) (s % 32) (a % 32) (omega arith) (omega arith)

-- the places in word i of the sets that include one set and not another, by the words of the two and the places that include theirs
abbrev pub places_between : ℕ → ℕ → ℕ → ℕ → ℕ → ℕ
places_between with stay high other i =
    cond (includes i other) (outside stay (cond (includes i high) with 0)) (cond (includes i high) with 0)

-- one digit without another
pub bit_without : (u v : Bool) → bit u - bit v ≡ bit (u && not v)
bit_without true true = refl
bit_without true false = refl
bit_without false true = refl
bit_without false false = refl

module _ (a b with stay : ℕ) (p : PlacesAbove (a % 32) with) (q : PlacesAbove (b % 32) stay) where
  -- their digits
  pub between_digits : (s : ℕ) → digit (places_between with stay (a / 32) (b / 32) (s / 32)) (s % 32) ≡ bit (includes s a && not (includes s b))
  between_digits s = rw (includes_word s a, includes_word s b) (go (includes (s / 32) (a / 32)) (includes (s / 32) (b / 32)))
    where
      here : s % 32 < 32
      here = omega arith

      go : (x y : Bool) → digit (cond y (outside stay (cond x with 0)) (cond x with 0)) (s % 32)
          ≡ bit ((x && includes (s % 32) (a % 32)) && not (y && includes (s % 32) (b % 32)))
      go true true =
          digit_outside stay with (s % 32) ∙ ap₂ (λ (m n : ℕ). m - n) (p.digits (s % 32) here) (q.digits (s % 32) here)
          ∙ bit_without (includes (s % 32) (a % 32)) (includes (s % 32) (b % 32))
      go true false = omega (arith, p.digits (s % 32) here, bit_without (includes (s % 32) (a % 32)) false)
      go false true = omega (arith, digit_outside stay 0 (s % 32), zero_digit (s % 32))
      go false false = zero_digit (s % 32)
