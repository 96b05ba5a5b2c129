-- A place looked for by halving: it lies between two ends that come closer until they meet.
use Rattle.std.specs.Prelude.{◌≡◌, ℕ, ◌+◌, ◌≤◌, ◌<◌, ltb}
use Rattle.std.proofs.Common.{subst, arith, ltb-true, ltb-false}
use Rattle.list_laws.specs.TestLaws.{Tested, tested, passes, fails}
use Rattle.list_laws.specs.PlacesPassed.{holds_next}

-- the places from `from` on, below low, are below the one looked for; those from high on, before the end, are not
pub record Halving (Below Above : ℕ → Type 0) (from end low high : ℕ) : Type 0 where
  pub ends : (from ≤ low) × (low ≤ high) × (high ≤ end)
  pub below : (j : ℕ) → from ≤ j → j < low → Below j
  pub above : (j : ℕ) → high ≤ j → j < end → Above j

pub halving_first : (Below Above : ℕ → Type 0) (from end : ℕ) → from ≤ end → Halving Below Above from end from end
halving_first Below Above from end h =
    record { ends = (omega arith, h, omega arith); below = λ j k l. absurd (omega arith); above = λ j k l. absurd (omega arith) }

module _ {Below Above : ℕ → Type 0} {from end low high : ℕ} (b : Halving Below Above from end low high) where
  -- the middle is below, and with it each place before it: the upper half is left
  pub halving_upper : (mid : ℕ) → low ≤ mid → mid < high → Below mid
      → ((j : ℕ) → from ≤ j → j < mid → Below mid → Below j) → Halving Below Above from end (mid + 1) high
  halving_upper mid p q t falls = record {
    ends = (omega (arith, b.ends), omega arith, b.ends.2);
    below = holds_next Below from mid (λ j h l. falls j h l t) t;
    above = b.above;
  }

  -- the middle is not, nor is a place after it: the lower half is left
  pub halving_lower : (mid : ℕ) → low ≤ mid → mid < high → Above mid
      → ((j : ℕ) → mid < j → j < end → Above mid → Above j) → Halving Below Above from end low mid
  halving_lower mid p q t rises =
      record { ends = (b.ends.0, p, omega (arith, b.ends)); below = b.below; above = λ j h l. go j h l (tested (ltb mid j)) }
    where
      go : (j : ℕ) → mid ≤ j → j < end → Tested (ltb mid j) → Above j
      go j h l (passes e) = rises j (ltb-true mid j e) l t
      go j h l (fails e) =
          let k : j ≤ mid = ltb-false mid j e in
          let z : mid ≡ j = omega arith in
          subst Above z t

  -- the ends meet: the place is found
  pub halving_last : high ≤ low → Halving Below Above from end low low
  halving_last h =
      let z : high ≡ low = omega (arith, b.ends) in
      subst (λ (k : ℕ). Halving Below Above from end low k) z b

-- what is not below, and does not stand after the place found, stands there
pub halving_there : {Below Above : ℕ → Type 0} {from end at : ℕ} → Halving Below Above from end at at
    → (i : ℕ) → from ≤ i → i < end → (Below i → ⊥) → (at < i → Above at → ⊥) → i ≡ at
halving_there {Below} {Above} {from} {end} {at} b i h k lower upper = go (tested (ltb i at)) (tested (ltb at i))
  where
    go : Tested (ltb i at) → Tested (ltb at i) → i ≡ at
    go (passes e) f = absurd (lower (b.below i h (ltb-true i at e)))
    go (fails e) (passes f) =
        let l : at < i = ltb-true at i f in
        absurd (upper l (b.above at (omega arith) (omega arith)))
    go (fails e) (fails f) = omega (arith, ltb-false i at e, ltb-false at i f)
