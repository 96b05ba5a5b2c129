-- The powers of ten by which a number's digits are taken from the front.
use Rattle.std.specs.Prelude.{◌≡◌, [], ◌∷◌, ◌++◌, ℕ, zero, suc, ◌+◌, ◌*◌, ◌/◌, ◌%◌, ◌^◌, ◌≤◌, ◌<◌, max, length}
use Rattle.std.proofs.Common.{sym, ap, ◌∙◌, pow-suc, le-div_iff_mul-le, div-le_self, arith, length-append}
use Rattle.std.proofs.Math.Nat.{pow-zero, div-div-eq-div-mul}
use Rattle.printed_lines.specs.Decimal.{digit_byte, decimal}
use Rattle.text.specs.DecimalLaws.{decimal_more, decimal_short}

pub record PowerOfTen (q : ℕ) : Type 0 where
  pub exponent : ℕ
  pub is : q ≡ 10 ^ exponent

-- the place of the first digit of n: its digit is left by the division, and it is not above n, but for 0
pub record FirstPlace (n q : ℕ) : Type 0 where
  pub power : PowerOfTen q
  pub one_digit : n / q < 10
  pub inside : q ≤ max 1 n

pub power_one : PowerOfTen 1
power_one = record { exponent = 0; is = sym (pow-zero 10) }

pub power_next : {q : ℕ} → PowerOfTen q → PowerOfTen (q * 10)
power_next {q} p = record { exponent = suc p.exponent; is = ap (λ (x : ℕ). x * 10) p.is ∙ sym (pow-suc 10 p.exponent) }

pub power_positive : {q : ℕ} → PowerOfTen q → 0 < q
power_positive {q} p = go p.exponent p.is
  where
    below : (e : ℕ) → 0 < 10 ^ e
    below zero = omega (arith, pow-zero 10)
    below (suc e) = omega (arith, pow-suc 10 e, below e)

    go : (e : ℕ) → q ≡ 10 ^ e → 0 < q
    go e h = omega (arith, below e)

-- a power above 1 is ten times a power
pub record Tenth (q : ℕ) : Type 0 where
  pub power : PowerOfTen (q / 10)
  pub whole : q ≡ q / 10 * 10

pub power_tenth : {q : ℕ} → PowerOfTen q → 1 < q → Tenth q
power_tenth {q} p h = go p.exponent p.is
  where
    go : (e : ℕ) → q ≡ 10 ^ e → Tenth q
    go zero i = absurd (omega (arith, pow-zero 10))
    go (suc e) i =
        let w : q ≡ 10 ^ e * 10 = i ∙ pow-suc 10 e in
        record { power = record { exponent = e; is = omega arith }; whole = omega arith }

-- a power at which more than one digit is left has its next below the number too
pub power_inside : (n q : ℕ) → 0 < q → 10 ≤ n / q → q * 10 ≤ n
power_inside n q h k = omega (arith, (le-div_iff_mul-le {x = 10} {y = n} h).0 k)

-- one place further to the right there is one digit more
pub digits_next : (n q : ℕ) → PowerOfTen q → 1 < q → q ≤ n
    → decimal (n / (q / 10)) ≡ decimal (n / q) ++ (digit_byte (n / (q / 10) % 10) ∷ [])
digits_next n q p h k =
    let t = power_tenth p h in
    let e : n / (q / 10) / 10 ≡ n / q = div-div-eq-div-mul n (q / 10) 10 ∙ ap (λ (x : ℕ). n / x) (sym t.whole) in
    let m : 10 ≤ n / (q / 10) = (le-div_iff_mul-le {x = 10} {y = n} (power_positive t.power)).1 (omega (arith, t.whole)) in
    decimal_more (n / (q / 10)) m ∙ ap (λ (x : ℕ). decimal x ++ (digit_byte (n / (q / 10) % 10) ∷ [])) e

-- that digit's place is the next, and among those that a number of 64 bits can have
pub next_fits : (n q : ℕ) → n < 2 ^ 64 → PowerOfTen q → 1 < q → q ≤ n
    → (length (decimal (n / (q / 10))) ≡ length (decimal (n / q)) + 1) × (length (decimal (n / q)) < 20)
next_fits n q b p h k =
    let e : length (decimal (n / (q / 10))) ≡ length (decimal (n / q)) + 1 =
    ap length (digits_next n q p h k) ∙ length-append (decimal (n / q)) (digit_byte (n / (q / 10) % 10) ∷ []) in
    let s : length (decimal (n / (q / 10))) ≤ 20 = decimal_short 19 (n / (q / 10)) (omega (arith, div-le_self n (q / 10))) in
    (e, omega arith)
