-- Laws of the facts of a set that are outside a store d.
use Rattle.std.specs.Prelude.{◌≡◌, ℕ, ◌+◌, ◌-◌, ◌/◌, ◌%◌, ◌≤◌, max}
use Rattle.std.proofs.Common.{ap, ◌∙◌, arith}
use Rattle.std.proofs.Math.Arith.{bin_ind}
use Rattle.std.specs.Int.Bits.{bit_and, bit_or, or_step, or_zero_l, or_add_and}
use Rattle.stores.specs.FactSets.{Within, digit}
use Rattle.stores.specs.FactsOutside.{outside}
use Rattle.store_laws.specs.FactSetLaws.{digit_and, digit_or, within_or_left, within_le, empty_within}

pub or_above : (d a : ℕ) → d ≤ bit_or d a
or_above d a = within_le (within_or_left d a)

-- d has the others
pub or_outside : (d a : ℕ) → bit_or d (outside d a) ≡ bit_or d a
or_outside =
    bin_ind (λ (d : ℕ). (a : ℕ) → bit_or d (outside d a) ≡ bit_or d a)
    (λ a. omega (arith, or_zero_l a, or_zero_l (outside 0 a)))
    (λ d ih a.
    let half : outside d a / 2 ≡ outside (d / 2) (a / 2) = omega (arith, or_step d a, or_above (d / 2) (a / 2)) in
    let last : outside d a % 2 ≡ max (d % 2) (a % 2) - d % 2 = omega (arith, or_step d a, or_above (d / 2) (a / 2)) in
    omega (arith, or_step d (outside d a), ap (bit_or (d / 2)) half ∙ ih (a / 2), last, or_step d a))

pub outside_apart : (d a : ℕ) → bit_and d (outside d a) ≡ 0
outside_apart d a = omega (arith, or_outside d a, or_add_and d (outside d a), or_above d a)

pub outside_within : (d a : ℕ) → Within (outside d a) a
outside_within d a =
    record {
      at = λ i.
          omega (
            arith,
            digit_or d (outside d a) i,
            digit_or d a i,
            ap (λ (n : ℕ). digit n i) (or_outside d a),
            digit_and d (outside d a) i,
            ap (λ (n : ℕ). digit n i) (outside_apart d a),
            (empty_within a).at i,
          );
    }
