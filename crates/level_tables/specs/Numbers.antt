-- Numbers of a slice by place, and entries of four numbers.
use Rattle.std.specs.Prelude.{cond, List, ℕ, ◌+◌, ◌*◌, length, get_or, set, ltb}

-- stands for no number
abbrev pub none : ℕ
none = 18446744073709551615

-- the number at a place, or none past the end
unfoldable pub number_at : List ℕ → ℕ → ℕ
number_at w i = cond (ltb i (length w)) (get_or w i 0) none

-- the place of number k of entry i, counted from an area's first entry on; none where there is no such entry
unfoldable pub entry_place : ℕ → ℕ → ℕ → ℕ
entry_place first i k = cond (ltb k 4) (cond (ltb i 65536) (4 * (first + i) + k) none) none

abbrev pub in_entry : List ℕ → ℕ → ℕ → ℕ → ℕ
in_entry w first i k = number_at w (entry_place first i k)

-- the slice with another number k of entry i
abbrev pub with_entry : List ℕ → ℕ → ℕ → ℕ → ℕ → List ℕ
with_entry w first i k x = set w (entry_place first i k) x
