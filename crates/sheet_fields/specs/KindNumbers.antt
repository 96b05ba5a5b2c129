-- A node's fields are read alike for every kind number above 3.
use Rattle.std.specs.Prelude.{◌≡◌, List, ℕ, min}
use Rattle.std.proofs.Common.{arith}
use Rattle.sheet_laws.specs.Reading.{first_at, second_at}
use Rattle.sheet_types.specs.KindNumberLaws.{least_kind_test}

pub least_kind_first : (kind facts number : ℕ) (s : List ℕ) (at : ℕ) → first_at (min kind 4) facts number s at ≡ first_at kind facts number s at
unfolding first_at
least_kind_first kind facts number s at =
    simp (least_kind_test kind 0 (omega arith), least_kind_test kind 1 (omega arith), least_kind_test kind 2 (omega arith))

pub least_kind_second : (kind nodes number : ℕ) (s : List ℕ) (at : ℕ) → second_at (min kind 4) nodes number s at ≡ second_at kind nodes number s at
unfolding second_at
least_kind_second kind nodes number s at =
    simp (least_kind_test kind 0 (omega arith), least_kind_test kind 1 (omega arith), least_kind_test kind 2 (omega arith))
