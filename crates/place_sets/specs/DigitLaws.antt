-- Laws of a word's digits.
use Rattle.std.specs.Prelude.{◌≡◌, refl, Bool, true, false, ℕ, zero, suc, ◌+◌, ◌-◌, ◌*◌, ◌/◌, ◌%◌, ◌^◌, ◌≤◌, ◌<◌, min, ltb}
use Rattle.std.proofs.Common.{sym, ap, ◌∙◌, pow-suc, arith, ltb-true, ltb-false}
use Rattle.std.proofs.lemmas.Nat.{shl-shr}
use Rattle.std.specs.Int.Bits.{bit_and, and_step, and_self}
use Rattle.std.specs.Int.Count.{count_trailing_zeros, under}
use Rattle.store_laws.specs.FactSets.{digit}
use Rattle.store_laws.specs.FactSetLaws.{digit_zero, digit_half}

pub digit_le : (n i : ℕ) → digit n i ≤ 1
unfolding digit
digit_le n i = omega arith

-- 2 ^ i has digit i
pub digit_power : (i : ℕ) → digit (2 ^ i) i ≡ 1
unfolding digit
digit_power i = let e : 1 * 2 ^ i ≡ 2 ^ i = omega arith in ap (λ (n : ℕ). n % 2) (rw e at (shl-shr 1 i))

-- ---- the lowest digit

-- t is the lowest digit of n that is 1, and m is n without it
pub record Lowest (n t m : ℕ) : Type 0 where
  pub one : digit n t ≡ 1
  pub none : (d : ℕ) → d < t → digit n d ≡ 0
  pub gone : digit m t ≡ 0
  pub same : (d : ℕ) → (d ≡ t → ⊥) → digit m d ≡ digit n d

-- an odd number's lowest digit is the first
lowest_odd : (n m : ℕ) → n % 2 ≡ 1 → m % 2 ≡ 0 → m / 2 ≡ n / 2 → Lowest n 0 m
lowest_odd n m o z e =
    record { one = digit_zero n ∙ o; none = λ d h. absurd (omega arith); gone = digit_zero m ∙ z; same = go }
  where
    go : (d : ℕ) → (d ≡ 0 → ⊥) → digit m d ≡ digit n d
    go zero h = absurd (h refl)
    go (suc d) h = sym (digit_half m d) ∙ ap (λ (x : ℕ). digit x d) e ∙ digit_half n d

-- an even number's is that of its half, one place higher
lowest_even : (n m t h : ℕ) → n % 2 ≡ 0 → m % 2 ≡ 0 → m / 2 ≡ h → Lowest (n / 2) t h → Lowest n (suc t) m
lowest_even n m t h z y e r =
    record {
      one = sym (digit_half n t) ∙ r.one;
      none = below;
      gone = sym (digit_half m t) ∙ ap (λ (x : ℕ). digit x t) e ∙ r.gone;
      same = other;
    }
  where
    below : (d : ℕ) → d < suc t → digit n d ≡ 0
    below zero l = digit_zero n ∙ z
    below (suc d) l = sym (digit_half n d) ∙ r.none d (omega arith)

    other : (d : ℕ) → (d ≡ suc t → ⊥) → digit m d ≡ digit n d
    other zero l = digit_zero m ∙ y ∙ sym z ∙ sym (digit_zero n)
    other (suc d) l =
        sym (digit_half m d) ∙ ap (λ (x : ℕ). digit x d) e ∙ r.same d (λ (q : d ≡ t). l (ap suc q)) ∙ digit_half n d

-- the trailing zeros of a word that is not 0 count up to its lowest digit, and n & (n - 1) is the word without that digit
pub lowest : (k n : ℕ) → 0 < n → n < 2 ^ k → (count_trailing_zeros k n < k) × Lowest n (count_trailing_zeros k n) (bit_and n (n - 1))
unfolding count_trailing_zeros
lowest zero n p h = absurd (omega arith)
lowest (suc k) n p h = go (n % 2) refl (λ (e : n % 2 ≡ 0). lowest k (n / 2) (omega arith) (omega (arith, pow-suc 2 k)))
  where
    go : (r : ℕ) → n % 2 ≡ r → (n % 2 ≡ 0 → (count_trailing_zeros k (n / 2) < k) × Lowest (n / 2) (count_trailing_zeros k (n / 2)) (bit_and (n / 2) (n / 2 - 1)))
        → (under r (count_trailing_zeros k (n / 2)) < suc k) × Lowest n (under r (count_trailing_zeros k (n / 2))) (bit_and n (n - 1))
    go zero e more =
        let half : (n - 1) / 2 ≡ n / 2 - 1 = omega arith in
        let step : bit_and n (n - 1) ≡ bit_and (n / 2) (n / 2 - 1) * 2 + min (n % 2) ((n - 1) % 2) = rw half at (and_step n (n - 1)) in
        let r = more e in
        (omega (arith, r.0), lowest_even n (bit_and n (n - 1)) (count_trailing_zeros k (n / 2)) (bit_and (n / 2) (n / 2 - 1)) e (omega arith) (omega arith) r.1)
    go (suc r) e more =
        let half : (n - 1) / 2 ≡ n / 2 = omega arith in
        let step : bit_and n (n - 1) ≡ bit_and (n / 2) (n / 2) * 2 + min (n % 2) ((n - 1) % 2) = rw half at (and_step n (n - 1)) in
        (omega arith, lowest_odd n (bit_and n (n - 1)) (omega arith) (omega (arith, and_self (n / 2))) (omega (arith, and_self (n / 2))))

-- what is left of the digits is higher
pub lowest_later : {n t m : ℕ} → Lowest n t m → (d : ℕ) → digit m d ≡ 1 → (t < d) × (digit n d ≡ 1)
lowest_later {n} {t} {m} r d h = (go (ltb t d) refl, one)
  where
    other : d ≡ t → ⊥
    other e = omega (arith, r.gone, ap (λ (x : ℕ). digit m x) e)

    one : digit n d ≡ 1
    one = sym (r.same d other) ∙ h

    go : (b : Bool) → ltb t d ≡ b → t < d
    go true e = ltb-true t d e
    go false e = let l : d ≤ t = ltb-false t d e in absurd (omega (arith, r.none d (omega (arith, other)), one))
