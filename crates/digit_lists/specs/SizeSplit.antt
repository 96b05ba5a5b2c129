-- How many facts a set has, by the facts of its parts.
use Rattle.std.specs.Prelude.{◌≡◌, refl, ℕ, zero, suc, ◌+◌, ◌-◌, ◌*◌, ◌/◌, ◌%◌, ◌^◌, ◌≤◌, ◌<◌}
use Rattle.std.proofs.Common.{sym, ap, ap₂, ◌∙◌, suc-add, zero-add, mod-eq_of_lt, arith, shr-shr}
use Rattle.std.proofs.Common.{add-one, pow-suc}
use Rattle.std.specs.Int.Count.{ones, ones_step}
use Rattle.std.proofs.lemmas.Nat.{ones-le}
use Rattle.std.proofs.Math.Nat.{div-eq_of_lt}
use Rattle.std.proofs.Math.Pow.{field, mod-mod-pow, high, low}
use Rattle.set_digits.specs.FactSets.{digit}
use Rattle.set_digits.specs.FactSetLaws.{zero_digit}
use Rattle.set_digits.specs.OrderedSearch.{fact_count}

-- the lower digits do not depend on the higher ones
digit_low : (m i s : ℕ) → i < m → digit (s % 2 ^ m) i ≡ digit s i
unfolding digit
digit_low m i s h =
    let e : m ≡ (m - suc i) + 1 + i = omega arith in
    ap (λ (k : ℕ). s % 2 ^ k / 2 ^ i % 2) e
    ∙ ap (λ (x : ℕ). x % 2) (field s (m - suc i + 1) i)
    ∙ mod-mod-pow (s / 2 ^ i) (m - suc i) 1

count_low : (n m s : ℕ) → n ≤ m → fact_count n (s % 2 ^ m) ≡ fact_count n s
unfolding fact_count
count_low zero m s h = refl
count_low (suc n) m s h = ap₂ ◌+◌ (digit_low m n s h) (count_low n m s (omega arith))

-- the empty set has no facts
pub count_empty : (n : ℕ) → fact_count n 0 ≡ 0
unfolding fact_count
count_empty zero = refl
count_empty (suc n) = ap₂ ◌+◌ (zero_digit n) (count_empty n)

-- a set has the facts that it has from fact m on, and those before
pub count_split : (m n s : ℕ) → fact_count (n + m) s ≡ fact_count n (s / 2 ^ m) + fact_count m (s % 2 ^ m)
unfolding fact_count digit
count_split m zero s = ap (λ (k : ℕ). fact_count k s) (zero-add m) ∙ sym (count_low m m s (omega arith)) ∙ sym (zero-add _)
count_split m (suc n) s =
    let e : m + n ≡ n + m = omega arith in
    let top : digit s (n + m) ≡ digit (s / 2 ^ m) n = ap (λ (x : ℕ). x % 2) (sym (shr-shr s m n ∙ ap (λ (k : ℕ). s / 2 ^ k) e)) in
    ap (λ (k : ℕ). fact_count k s) (suc-add n m) ∙ omega (arith, top, count_split m n s)

-- the facts of two parts of a number
pub count_join : (m n hi lo : ℕ) → lo < 2 ^ m → fact_count (n + m) (hi * 2 ^ m + lo) ≡ fact_count n hi + fact_count m lo
count_join m n hi lo h =
    count_split m n (hi * 2 ^ m + lo) ∙ ap₂ (λ (x y : ℕ). fact_count n x + fact_count m y) (high hi m h) (low hi m h)

-- a set of the first n facts has no others
pub count_wider : (n m s : ℕ) → n ≤ m → s < 2 ^ n → fact_count m s ≡ fact_count n s
count_wider n m s h l =
    let e : m ≡ (m - n) + n = omega arith in
    ap (λ (k : ℕ). fact_count k s) e
    ∙ count_split n (m - n) s
    ∙ ap₂ (λ (x y : ℕ). fact_count (m - n) x + fact_count n y) (div-eq_of_lt l) (mod-eq_of_lt l)
    ∙ omega (arith, count_empty (m - n))

-- a set has as many facts as its number has digits 1
pub ones_count : (n s : ℕ) → s < 2 ^ n → ones s ≡ fact_count n s
unfolding fact_count digit
ones_count zero s h = omega (arith, ones-le 0 s h)
ones_count (suc n) s h =
    let half : ones (s / 2) ≡ fact_count n (s / 2) = ones_count n (s / 2) (omega (arith, pow-suc 2 n)) in
    let split : fact_count (n + 1) s ≡ fact_count n (s / 2) + fact_count 1 (s % 2) = count_split 1 n s in
    let more : fact_count (n + 1) s ≡ fact_count (suc n) s = ap (λ (k : ℕ). fact_count k s) (add-one n) in
    let last : fact_count 1 (s % 2) ≡ s % 2 = omega arith in
    ones_step s ∙ omega (arith, half, split, last) ∙ more
