-- Where the constraints of a sheet that was taken in stand.
use Rattle.std.specs.Prelude.{Bool, cond, List, ℕ, ◌+◌, eqb, ltb}
use Rattle.std.specs.Int.Bits.{bit_and, bit_or}
use Rattle.level_tables.specs.Numbers.{none, number_at}

-- a set has all facts of another
abbrev pub includes_all : ℕ → ℕ → Bool
includes_all s part = eqb (bit_and s part) part

-- the number of constraints, and constraint e
abbrev pub constraint_count : List ℕ → ℕ
constraint_count w = number_at w 4352

unfoldable pub constraint_of : List ℕ → ℕ → ℕ
constraint_of w e = cond (ltb e 256) (number_at w (4353 + e)) none

-- what stands at the union of two sets: its closure
unfoldable pub joined_in : List ℕ → ℕ → ℕ → ℕ
joined_in w a b = cond (ltb (bit_or a b) 4096) (number_at w (bit_or a b)) none
