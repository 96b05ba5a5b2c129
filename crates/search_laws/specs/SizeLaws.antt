-- How many facts a set has: no more than one that includes it, and fewer where the two differ.
use Rattle.std.specs.Prelude.{◌≡◌, refl, Bool, true, false, ℕ, zero, suc, ◌%◌, ◌^◌, ◌≤◌, ◌<◌, ltb}
use Rattle.std.proofs.Common.{ap, lt_of_lt_of_le, arith, pow_mono, ltb-true, ltb-false}
use Rattle.std.proofs.Math.Nat.{div-eq_of_lt}
use Rattle.move_laws.specs.FactSets.{digit, Within}
use Rattle.move_laws.specs.FactSetLaws.{set_ext}
use Rattle.ordered_search.specs.OrderedSearch.{fact_count}

digit_most : (s i : ℕ) → digit s i ≤ 1
unfolding digit
digit_most s i = omega arith

-- a set of the first n facts has no other
digit_above : (n s i : ℕ) → s < 2 ^ n → n ≤ i → digit s i ≡ 0
unfolding digit
digit_above n s i h l = ap (λ (m : ℕ). m % 2) (div-eq_of_lt (lt_of_lt_of_le h (pow_mono l)))

-- a set has no more facts than one that includes it
pub count_within : (n : ℕ) {a b : ℕ} → Within a b → fact_count n a ≤ fact_count n b
unfolding fact_count
count_within zero w = omega arith
count_within (suc i) w = omega (arith, w.at i, count_within i w)

-- where one set is inside another and has as many of the first n facts, it has the same of them
digits_same : (n : ℕ) {a b : ℕ} → Within a b → fact_count n a ≡ fact_count n b → (i : ℕ) → i < n → digit a i ≡ digit b i
unfolding fact_count
digits_same zero w e i l = absurd (omega arith)
digits_same (suc n) {a} {b} w e i l = go (digits_same n w (omega (arith, w.at n, count_within n w)) i) (ltb i n) refl
  where
    go : (i < n → digit a i ≡ digit b i) → (t : Bool) → ltb i n ≡ t → digit a i ≡ digit b i
    go ih true t = ih (ltb-true i n t)
    go ih false t = let s : i ≡ n = omega (arith, ltb-false i n t) in rw s (omega (arith, w.at n, count_within n w))

-- two sets of n facts, one inside the other and with as many facts, are equal
pub count_same : (n : ℕ) {a b : ℕ} → b < 2 ^ n → Within a b → fact_count n a ≡ fact_count n b → a ≡ b
count_same n {a} {b} h w e = set_ext a b (λ i. go i (ltb i n) refl)
  where
    go : (i : ℕ) (t : Bool) → ltb i n ≡ t → digit a i ≡ digit b i
    go i true t = digits_same n w e i (ltb-true i n t)
    go i false t = omega (arith, w.at i, digit_above n b i h (ltb-false i n t))

-- a set has fewer facts than a set of n facts that includes it and differs from it
pub count_below : (n : ℕ) {a b : ℕ} → b < 2 ^ n → Within a b → (a ≡ b → ⊥) → fact_count n a < fact_count n b
count_below n {a} {b} h w d =
    let apart : fact_count n a ≡ fact_count n b → ⊥ = λ e. d (count_same n h w e) in
    omega (arith, count_within n w)

-- a set has at most n of the first n facts
pub count_most : (n s : ℕ) → fact_count n s ≤ n
unfolding fact_count
count_most zero s = omega arith
count_most (suc i) s = omega (arith, digit_most s i, count_most i s)
