-- Numbers as text: decimal digits in ASCII, the most significant first, with no leading zero.
use Rattle.std.specs.Prelude.{true, false, List, [], ◌∷◌, ◌++◌, ℕ, zero, suc, ◌+◌, ◌*◌, ◌-◌, ◌/◌, ◌%◌, ltb}

-- the character of a digit
abbrev pub digit_byte : ℕ → ℕ
digit_byte d = 48 + d

-- the digits of n, at most so many
unfoldable pub decimal_within : ℕ → ℕ → List ℕ
decimal_within zero n = []
decimal_within (suc f) n =
    elim (ltb n 10) [ true ↦ digit_byte n ∷ [] | false ↦ decimal_within f (n / 10) ++ (digit_byte (n % 10) ∷ []) ]

-- A number has no more digits than its successor's value.
unfoldable pub decimal : ℕ → List ℕ
decimal n = decimal_within (suc n) n

-- the number that digits stand for, after others that stand for n
unfoldable pub value_from : ℕ → List ℕ → ℕ
value_from n [] = n
value_from n (d ∷ ds) = value_from (10 * n + (d - 48)) ds

abbrev pub value : List ℕ → ℕ
value ds = value_from 0 ds
