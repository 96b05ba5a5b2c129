-- The sets that include a are as many as there are sets of the facts that a lacks.
use mathlib.Core.Path.{◌≡◌, ap}
use Prim.Native.Nat.{ℕ, ◌-◌, ◌^◌}
use native.Mathlib.Omega.{arith}
use lib.Pow.{pow_mono}
use Rattle.set_digits.specs.OrderedSearch.{fact_count}
use Rattle.set_digits.specs.SizeLaws.{count_most}
use Rattle.label_walk.specs.FreeSets.{count_fits, free_of}
use Rattle.set_digits.specs.WordDigits.{one_shifted}
use Rattle.label_walk.proofs.count_free_of.Goals as goal

pub overflow_cast-k : goal.overflow_cast-k
overflow_cast-k c = omega (arith, c.fact_count-k.ensures, count_most 16 c.args.a)

pub overflow_sub-result : goal.overflow_sub-result
overflow_sub-result c =
    let g = c.args in
    omega (arith, c.fact_count-k.ensures, count_fits g.facts g.a (omega arith) (omega arith))

pub overflow_sub-result-2 : goal.overflow_sub-result-2
overflow_sub-result-2 c =
    let g = c.args in
    let k = c.fact_count-k.result in
    omega (
      arith,
      one_shifted g.facts 64 (omega arith),
      one_shifted (g.facts - k) 64 (omega arith),
      pow_mono {i = g.facts - k} {j = g.facts} (omega arith),
    )

pub returns : goal.returns
returns c =
    let g = c.args in
    let k : c.fact_count-k.result ≡ fact_count 16 g.a = c.fact_count-k.ensures in
    omega (
      arith,
      one_shifted g.facts 64 (omega arith),
      one_shifted (g.facts - c.fact_count-k.result) 64 (omega arith),
      ap (λ (n : ℕ). 2 ^ (g.facts - n)) k,
      free_of g.facts g.a (omega arith) (omega arith),
    )
