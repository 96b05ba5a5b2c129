-- One byte of a number of four, and one of the eight bytes of two numbers.
use Rattle.std.specs.Prelude.{◌≡◌, refl, cond, ℕ, zero, suc, ◌+◌, ◌/◌, ◌%◌, ◌<◌, get_or, eqb}
use Rattle.std.proofs.Common.{arith}
use Rattle.packing.specs.Packing.{eight_bytes}

-- byte k of four, from the high end
abbrev pub byte_of : ℕ → ℕ → ℕ
byte_of word k = cond (eqb k 0) (word / 16777216) (cond (eqb k 1) (word / 65536 % 256) (cond (eqb k 2) (word / 256 % 256) (word % 256)))

-- the first four bytes are those of the first number
pub byte_first : (b c j : ℕ) → j < 4 → byte_of b j ≡ get_or (eight_bytes b c) j 0
byte_first b c zero h = refl
byte_first b c (suc zero) h = refl
byte_first b c (suc (suc zero)) h = refl
byte_first b c (suc (suc (suc zero))) h = refl
byte_first b c (suc (suc (suc (suc j)))) h = absurd (omega arith)

-- and the others those of the second
pub byte_second : (b c j : ℕ) → j < 4 → byte_of c j ≡ get_or (eight_bytes b c) (4 + j) 0
byte_second b c zero h = refl
byte_second b c (suc zero) h = refl
byte_second b c (suc (suc zero)) h = refl
byte_second b c (suc (suc (suc zero))) h = refl
byte_second b c (suc (suc (suc (suc j)))) h = absurd (omega arith)
