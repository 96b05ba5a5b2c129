-- The facts of a set that another set has not.
use Rattle.std.specs.Prelude.{ℕ, ◌-◌}
use Rattle.std.specs.Int.Bits.{bit_or}

-- the facts of a that d has not
abbrev pub outside : ℕ → ℕ → ℕ
outside d a = bit_or d a - d
