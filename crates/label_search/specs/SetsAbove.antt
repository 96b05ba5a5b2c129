-- The sets that have all facts of a store d, in ascending order.
use Rattle.std.specs.Prelude.{◌≡◌, refl, Bool, true, false, ℕ, ◌+◌, ◌/◌, ◌%◌, ◌≤◌, ◌<◌, eqb}
use Rattle.std.proofs.Common.{ap, arith, eqb-true}
use Rattle.std.proofs.Math.Arith.{bin_ind}
use Rattle.std.specs.Int.Bits.{bit_or, or_step, or_zero_l}
use Rattle.std.proofs.lemmas.Bool.{eqb-false}
use Rattle.closure_table.specs.FactSetLaws.{within_refl, within_antisym, within_or_left, within_or_right, or_least, within_le}

-- v has all facts of d
abbrev pub Has : ℕ → ℕ → Type 0
Has d v = bit_or d v ≡ v

pub has_or : (d a : ℕ) → Has d (bit_or d a)
has_or d a = within_antisym (or_least (within_or_left d a) (within_refl (bit_or d a))) (within_or_right d (bit_or d a))

pub above_next : (d v : ℕ) → v < bit_or d (v + 1)
above_next d v = omega (arith, within_le (within_or_right d (v + 1)))

-- no set that has all facts of d is between v and the next one
pub next_least : (d v u : ℕ) → Has d v → Has d u → v < u → bit_or d (v + 1) ≤ u
next_least =
    bin_ind (λ (d : ℕ). (v u : ℕ) → Has d v → Has d u → v < u → bit_or d (v + 1) ≤ u)
    (λ v u h k l. omega (arith, or_zero_l (v + 1)))
    (λ d ih v u h k l. go d ih v u h k l (eqb (v % 2) 0) refl)
  where
    go : (d : ℕ) → ((v u : ℕ) → Has (d / 2) v → Has (d / 2) u → v < u → bit_or (d / 2) (v + 1) ≤ u)
        → (v u : ℕ) → Has d v → Has d u → v < u → (b : Bool) → eqb (v % 2) 0 ≡ b → bit_or d (v + 1) ≤ u
    go d ih v u h k l true e =
        let half : (v + 1) / 2 ≡ v / 2 = omega (arith, eqb-true (v % 2) 0 e) in
        omega (arith, or_step d (v + 1), ap (bit_or (d / 2)) half, or_step d v, h, eqb-true (v % 2) 0 e)
    go d ih v u h k l false e =
        let half : (v + 1) / 2 ≡ v / 2 + 1 = omega (arith, eqb-false (v % 2) 0 e) in
        omega (
          arith,
          or_step d (v + 1),
          ap (bit_or (d / 2)) half,
          or_step d u,
          ih (v / 2) (u / 2) (omega (arith, or_step d v, h)) (omega (arith, or_step d u, k)) (omega (arith, eqb-false (v % 2) 0 e)),
          eqb-false (v % 2) 0 e,
        )
