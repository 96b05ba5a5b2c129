-- Laws of decimal digits: the last digit apart, the value, the first digit, the length.
use Rattle.std.specs.Prelude.{◌≡◌, ℕ, zero, suc, ◌+◌, ◌*◌, ◌-◌, ◌/◌, ◌%◌, ◌^◌, ◌≤◌, ◌<◌, length, get_or, ltb}
use Rattle.std.proofs.Common.{sym, ap, ◌∙◌, subst, ⊎_elim, pow-suc, arith, length-append, ltb-true, ltb-false, lt-ltb, le-ltb}
use mathlib.Core.List.Memᴰ
use mathlib.Core.List.{List, [], ◌∷◌, ◌++◌, Memᴰ}
use Rattle.std.proofs.Math.ListN.{get_or-append}
use Rattle.list_laws.specs.TestLaws.{Tested, passes, fails, tested}
use Rattle.printed_lines.specs.Decimal.{digit_byte, decimal_within, decimal, value_from, value}

within_one : (f n : ℕ) → n < 10 → decimal_within (suc f) n ≡ digit_byte n ∷ []
unfolding decimal_within
within_one f n h = rw (decimal_within, lt-ltb n 10 h)

within_more : (f n : ℕ) → 10 ≤ n → decimal_within (suc f) n ≡ decimal_within f (n / 10) ++ (digit_byte (n % 10) ∷ [])
unfolding decimal_within
within_more f n h = rw (decimal_within, le-ltb n 10 h)

-- any bound above the number will do
within_enough : (f g n : ℕ) → n < f → n < g → decimal_within f n ≡ decimal_within g n
within_enough zero g n h k = absurd (omega arith)
within_enough (suc f) zero n h k = absurd (omega arith)
within_enough (suc f) (suc g) n h k = go (λ l. within_enough f g (n / 10) (omega arith) (omega arith)) (tested (ltb n 10))
  where
    go : (10 ≤ n → decimal_within f (n / 10) ≡ decimal_within g (n / 10)) → Tested (ltb n 10) → decimal_within (suc f) n ≡ decimal_within (suc g) n
    go ih (passes e) = let l : n < 10 = ltb-true n 10 e in within_one f n l ∙ sym (within_one g n l)
    go ih (fails e) =
        let l : 10 ≤ n = ltb-false n 10 e in
        within_more f n l ∙ ap (λ (x : List ℕ). x ++ (digit_byte (n % 10) ∷ [])) (ih l) ∙ sym (within_more g n l)

-- a number of one digit
pub decimal_one : (n : ℕ) → n < 10 → decimal n ≡ digit_byte n ∷ []
unfolding decimal
decimal_one n h = within_one n n h

-- the last digit, after those of the tenth part
pub decimal_more : (n : ℕ) → 10 ≤ n → decimal n ≡ decimal (n / 10) ++ (digit_byte (n % 10) ∷ [])
unfolding decimal
decimal_more n h =
    within_more n n h ∙ ap (λ (x : List ℕ). x ++ (digit_byte (n % 10) ∷ [])) (within_enough n (suc (n / 10)) (n / 10) (omega arith) (omega arith))

-- What holds of the digits of each number below ten, and with one digit more, holds of those of every number.
pub decimal_ind : (P : ℕ → List ℕ → Type 0)
    → ((n : ℕ) → n < 10 → P n (digit_byte n ∷ []))
    → ((n : ℕ) → 10 ≤ n → P (n / 10) (decimal (n / 10)) → P n (decimal (n / 10) ++ (digit_byte (n % 10) ∷ [])))
    → (n : ℕ) → P n (decimal n)
decimal_ind P one more n = below (suc n) n (omega arith)
  where
    below : (f n : ℕ) → n < f → P n (decimal n)
    below zero n h = absurd (omega arith)
    below (suc f) n h = go (λ l. below f (n / 10) (omega arith)) (tested (ltb n 10))
      where
        go : (10 ≤ n → P (n / 10) (decimal (n / 10))) → Tested (ltb n 10) → P n (decimal n)
        go ih (passes e) = let l : n < 10 = ltb-true n 10 e in subst (P n) (sym (decimal_one n l)) (one n l)
        go ih (fails e) = let l : 10 ≤ n = ltb-false n 10 e in subst (P n) (sym (decimal_more n l)) (more n l (ih l))

-- ---- the digits stand for the number
value_last : (n : ℕ) (ds : List ℕ) (d : ℕ) → value_from n (ds ++ (digit_byte d ∷ [])) ≡ 10 * value_from n ds + d
unfolding value_from
value_last n [] d = omega arith
value_last n (x ∷ ds) d = value_last (10 * n + (x - 48)) ds d

pub decimal_value : (n : ℕ) → value (decimal n) ≡ n
unfolding value_from
decimal_value =
    decimal_ind (λ n ds. value ds ≡ n) (λ n h. omega arith) (λ n h ih. value_last 0 (decimal (n / 10)) (n % 10) ∙ omega (arith, ih))

-- each is a digit
pub decimal_digits : (n : ℕ) → (b : ℕ) → Memᴰ b (decimal n) → (48 ≤ b) × (b ≤ 57)
decimal_digits =
    decimal_ind (λ n ds. (b : ℕ) → Memᴰ b ds → (48 ≤ b) × (b ≤ 57))
    (λ n h b m. let e : b ≡ digit_byte n = Memᴰ.eq_of_singleton m in (omega arith, omega arith))
    (λ n h ih b m. ⊎_elim (λ (k : Memᴰ b (decimal (n / 10))). ih b k)
    (λ (k : Memᴰ b (digit_byte (n % 10) ∷ [])). let e : b ≡ digit_byte (n % 10) = Memᴰ.eq_of_singleton k in (omega arith, omega arith))
    (Memᴰ.append_cases (decimal (n / 10)) m))

-- ---- length
pub decimal_some : (n : ℕ) → 0 < length (decimal n)
decimal_some =
    decimal_ind (λ n ds. 0 < length ds) (λ n h. omega arith) (λ n h ih. omega (arith, length-append (decimal (n / 10)) (digit_byte (n % 10) ∷ [])))

-- a number below a power of ten has no more digits than the power's exponent, if that is not 0
pub decimal_short : (k n : ℕ) → n < 10 ^ suc k → length (decimal n) ≤ suc k
decimal_short zero n h = omega (arith, ap length (decimal_one n (omega arith)))
decimal_short (suc k) n h = go (decimal_short k (n / 10) (omega (arith, pow-suc 10 (suc k)))) (tested (ltb n 10))
  where
    go : length (decimal (n / 10)) ≤ suc k → Tested (ltb n 10) → length (decimal n) ≤ suc (suc k)
    go ih (passes e) = omega (arith, ap length (decimal_one n (ltb-true n 10 e)))
    go ih (fails e) =
        omega (arith, ap length (decimal_more n (ltb-false n 10 e)), length-append (decimal (n / 10)) (digit_byte (n % 10) ∷ []))

-- ---- no leading zero
pub decimal_first : (n : ℕ) → 0 < n → 48 < get_or (decimal n) 0 0
decimal_first =
    decimal_ind (λ n ds. 0 < n → 48 < get_or ds 0 0) (λ n h k. omega arith)
    (λ n h ih k. rw (get_or-append (decimal (n / 10)) (digit_byte (n % 10) ∷ []) 0 0 (decimal_some (n / 10))) (ih (omega arith)))
