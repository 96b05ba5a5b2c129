-- The words whose number includes `high`, in ascending order, stored without the digits of the sets that include one set and not another.
use Rattle.std.specs.Prelude.{◌≡◌, refl, Bool, true, false, cond, List, ℕ, ◌+◌, ◌≤◌, ◌<◌, min, length, get_or, set}
use Rattle.std.proofs.Common.{ap, subst, arith}
use Rattle.std.specs.Int.Bits.{bit_or, or_zero_l, or_zero_r}
use Rattle.search_laws.specs.TestLaws.{Tested, passes, fails, tested}
use Rattle.search_laws.specs.FactsOutside.{outside}
use Rattle.search_laws.specs.Stores.{includes}
use Rattle.search_laws.specs.OutsideLaws.{or_above}
use Rattle.set_digits.specs.WordDigits.{places_between, includes_has}
use Rattle.set_digits.specs.FilledWords.{Filled, filled_none, filled_next, filled_over}
use Rattle.set_digits.specs.SetsAbove.{Has, above_next, next_least}

module _ (w : List ℕ) (at with stay high other : ℕ) where
  -- word i of those from `at` on without the digits of those sets
  abbrev pub cleared_word : ℕ → ℕ
  cleared_word i = outside (places_between with stay high other i) (get_or w (at + i) 0)

  -- no digit is cleared in a word whose number does not include `high`
  pub cleared_other : (i : ℕ) → includes i high ≡ false → get_or w (at + i) 0 ≡ cleared_word i
  cleared_other i e =
      let n : places_between with stay high other i ≡ 0 = rw e (go (includes i other)) in
      omega (arith, ap (λ (g : ℕ). outside g (get_or w (at + i) 0)) n, or_zero_l (get_or w (at + i) 0))
    where
      go : (t : Bool) → cond t (outside stay 0) 0 ≡ 0
      go true = omega (arith, or_zero_r stay)
      go false = refl

  -- the words before the first
  pub cleared_first : (words : ℕ) → Filled at (min high words) w w cleared_word
  cleared_first words =
      filled_over (filled_none at w cleared_word) (min high words) (omega arith)
      (λ i h l. cleared_other i (less i (omega arith) (tested (includes i high))))
    where
      less : (i : ℕ) → i < high → Tested (includes i high) → includes i high ≡ false
      less i l (passes p) = absurd (omega (arith, includes_has high i p, or_above high i))
      less i l (fails p) = p

  -- one word cleared, and those up to the next one whose number includes `high` passed over
  pub cleared_next : {v : List ℕ} (k words x : ℕ) → Filled at (min k words) w v cleared_word → Has high k → k < words → at + words ≤ length w
      → x ≡ cleared_word k → Filled at (min (bit_or high (k + 1)) words) w (set v (at + k) x) cleared_word
  cleared_next {v} k words x f has l room e =
      let m : min k words ≡ k = omega arith in
      let g : Filled at k w v cleared_word = subst (λ (n : ℕ). Filled at n w v cleared_word) m f in
      filled_over (filled_next g x (omega arith) e) (min (bit_or high (k + 1)) words) (omega (arith, above_next high k))
      (λ i h n. cleared_other i (between i (omega arith) (omega arith) (tested (includes i high))))
    where
      between : (i : ℕ) → k < i → i < bit_or high (k + 1) → Tested (includes i high) → includes i high ≡ false
      between i h n (passes p) = absurd (omega (arith, next_least high k i has (includes_has high i p) h))
      between i h n (fails p) = p
