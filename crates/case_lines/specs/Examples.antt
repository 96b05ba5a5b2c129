-- A line and its digits, computed from the definitions.
use Rattle.std.specs.Prelude.{◌≡◌, refl, List, [], ◌∷◌, ℕ}
use Rattle.list_laws.specs.Tabulate.{tabulate}
use Rattle.printed_lines.specs.Decimal.{value_from}
use Rattle.case_lines.specs.Lines.{before, bytes_of, case_of, line_of}
use Rattle.case_lines.specs.declared.Call.TheVariants.{Set}
use Rattle.case_lines.specs.declared.Line.TheVariants.{Passed, Malformed, Holds}

-- set k-2 0 12 0aff
line : List ℕ
line = 115 ∷ 101 ∷ 116 ∷ 32 ∷ 107 ∷ 45 ∷ 50 ∷ 32 ∷ 48 ∷ 32 ∷ 49 ∷ 50 ∷ 32 ∷ 48 ∷ 97 ∷ 102 ∷ 102 ∷ []

case_example : line_of line ≡ Holds (record { call = Set; name = 4; until = 7; left = 0; right = 12; digits = 13 })
unfolding line before case_of value_from
case_example = refl

digits_example : bytes_of (48 ∷ 97 ∷ 102 ∷ 102 ∷ []) ≡ 10 ∷ 255 ∷ []
unfolding tabulate
digits_example = refl

-- # k
comment_example : line_of (35 ∷ 32 ∷ 107 ∷ []) ≡ Passed
comment_example = refl

-- k 0 0: no call of this name
malformed_example : line_of (107 ∷ 32 ∷ 48 ∷ 32 ∷ 48 ∷ []) ≡ Malformed
unfolding before
malformed_example = refl
