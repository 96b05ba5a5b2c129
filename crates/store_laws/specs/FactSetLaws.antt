-- Laws of sets of facts: digits of a union and of an intersection, inclusion as an order.
use Rattle.std.specs.Prelude.{◌≡◌, refl, ℕ, suc, ◌/◌, ◌%◌, ◌^◌, ◌≤◌, min, max}
use Rattle.std.proofs.Common.{sym, ap, ◌∙◌, le_antisymm, le_refl, le_trans, one-add, arith, shr-shr}
use Rattle.std.proofs.Math.Nat.{zero-div}
use Rattle.std.proofs.Math.Arith.{bin_ind}
use Rattle.stores.specs.FactSets.{digit, Within}
use Rattle.std.specs.Int.Bits.{bit_and, bit_or, and_step, or_step}
use Rattle.std.proofs.lemmas.Nat.{and_shr, or_shr, and_le_r}

and_last : (a b : ℕ) → bit_and a b % 2 ≡ min (a % 2) (b % 2)
and_last a b = omega (arith, and_step a b)

or_last : (a b : ℕ) → bit_or a b % 2 ≡ max (a % 2) (b % 2)
or_last a b = omega (arith, or_step a b)

pub digit_and : (a b i : ℕ) → digit (bit_and a b) i ≡ min (digit a i) (digit b i)
unfolding digit
digit_and a b i = ap (λ (n : ℕ). n % 2) (and_shr a b i) ∙ and_last (a / 2 ^ i) (b / 2 ^ i)

pub digit_or : (a b i : ℕ) → digit (bit_or a b) i ≡ max (digit a i) (digit b i)
unfolding digit
digit_or a b i = ap (λ (n : ℕ). n % 2) (or_shr a b i) ∙ or_last (a / 2 ^ i) (b / 2 ^ i)

pub digit_half : (n i : ℕ) → digit (n / 2) i ≡ digit n (suc i)
unfolding digit
digit_half n i = ap (λ (m : ℕ). m % 2) (shr-shr n 1 i ∙ ap (λ (k : ℕ). n / 2 ^ k) (one-add i))

pub digit_zero : (n : ℕ) → digit n 0 ≡ n % 2
unfolding digit
digit_zero n = omega arith

pub zero_digit : (i : ℕ) → digit 0 i ≡ 0
unfolding digit
zero_digit i = ap (λ (n : ℕ). n % 2) (zero-div (2 ^ i))

no_digit : (b : ℕ) → ((i : ℕ) → digit b i ≡ 0) → b ≡ 0
no_digit =
    bin_ind (λ (b : ℕ). ((i : ℕ) → digit b i ≡ 0) → b ≡ 0) (λ h. refl)
    (λ n ih h. omega (arith, ih (λ i. digit_half n i ∙ h (suc i)), digit_zero n, h 0))

-- two sets with the same facts are equal
pub set_ext : (a b : ℕ) → ((i : ℕ) → digit a i ≡ digit b i) → a ≡ b
set_ext =
    bin_ind (λ (a : ℕ). (b : ℕ) → ((i : ℕ) → digit a i ≡ digit b i) → a ≡ b)
    (λ b h. sym (no_digit b (λ i. sym (h i) ∙ zero_digit i)))
    (λ n ih b h. omega (arith, ih (b / 2) (λ i. digit_half n i ∙ h (suc i) ∙ sym (digit_half b i)), digit_zero n, digit_zero b, h 0))

pub within_and : {a b : ℕ} → Within a b → bit_and a b ≡ a
within_and {a} {b} h = set_ext (bit_and a b) a (λ i. omega (arith, digit_and a b i, h.at i))

pub and_within : (a b : ℕ) → bit_and a b ≡ a → Within a b
and_within a b e = record { at = λ i. omega (arith, digit_and a b i, ap (λ (n : ℕ). digit n i) e) }

pub within_refl : (a : ℕ) → Within a a
within_refl a = record { at = λ i. le_refl (digit a i) }

pub within_trans : {a b c : ℕ} → Within a b → Within b c → Within a c
within_trans h k = record { at = λ i. le_trans (h.at i) (k.at i) }

pub within_antisym : {a b : ℕ} → Within a b → Within b a → a ≡ b
within_antisym {a} {b} h k = set_ext a b (λ i. le_antisymm (h.at i) (k.at i))

pub within_or_left : (a b : ℕ) → Within a (bit_or a b)
within_or_left a b = record { at = λ i. omega (arith, digit_or a b i) }

pub within_or_right : (a b : ℕ) → Within b (bit_or a b)
within_or_right a b = record { at = λ i. omega (arith, digit_or a b i) }

-- the union is the smallest set that includes both
pub or_least : {a b c : ℕ} → Within a c → Within b c → Within (bit_or a b) c
or_least {a} {b} h k = record { at = λ i. omega (arith, digit_or a b i, h.at i, k.at i) }

-- an included set has no greater number
pub within_le : {a b : ℕ} → Within a b → a ≤ b
within_le {a} {b} h = omega (arith, within_and h, and_le_r a b)

pub empty_within : (a : ℕ) → Within 0 a
empty_within a = and_within 0 a refl

pub within_empty : {a : ℕ} → Within a 0 → a ≡ 0
within_empty {a} h = within_antisym h (empty_within a)
