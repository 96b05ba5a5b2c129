-- Lines of cases: where a field or a line ends, and what stands in it.
use Rattle.std.specs.Prelude.{Option, Some, None, ◌≡◌, Bool, cond, not, ◌&&◌, ◌||◌, List, [], ◌∷◌, ◌++◌, ℕ, suc, ◌+◌, ◌*◌, ◌-◌, ◌/◌, ◌%◌, ◌≤◌, min, length, get_or, take, drop, eqb, leb, ltb}
use Rattle.list_laws.specs.Lists.{all, same_numbers}
use Rattle.list_laws.specs.Tabulate.{tabulate}
use Rattle.printed_lines.specs.Decimal.{value}
use Rattle.printed_lines.specs.Lines.{space}
use Rattle.case_lines.specs.declared.Class.{Class}
use Rattle.case_lines.specs.declared.Class.TheVariants.{Digit, Hex, Name}
use Rattle.case_lines.specs.declared.Call.{Call}
use Rattle.case_lines.specs.declared.Call.TheVariants.{Read, Set, Compare, All, Rounds}
use Rattle.case_lines.specs.declared.Case.{Case}
use Rattle.case_lines.specs.declared.Line.{Line}
use Rattle.case_lines.specs.declared.Line.TheVariants.{Passed, Malformed, Holds}

-- ---- places
-- how many bytes stand before the first such byte
unfoldable pub before : ℕ → List ℕ → ℕ
before stop [] = 0
before stop (b ∷ bs) = cond (eqb b stop) 0 (suc (before stop bs))

-- the place of the first such byte from a place on, or the end
abbrev pub end_from : ℕ → List ℕ → ℕ → ℕ
end_from stop s at = at + before stop (drop at s)

-- the place after it, or the end
abbrev pub after_from : ℕ → List ℕ → ℕ → ℕ
after_from stop s at = min (end_from stop s at + 1) (length s)

-- the field that begins at a place
abbrev pub field_at : List ℕ → ℕ → List ℕ
field_at s at = take (before space (drop at s)) (drop at s)

-- ---- bytes
abbrev pub between : ℕ → ℕ → ℕ → Bool
between low high b = leb low b && leb b high

-- - and a to z
abbrev pub dash_or_letter : ℕ → Bool
dash_or_letter b = eqb b 45 || between 97 122 b

-- 0 to 9; those and a to f; those, - and a to z
abbrev pub in_class : Class → ℕ → Bool
in_class Digit b = between 48 57 b
in_class Hex b = between 48 57 b || between 97 102 b
in_class Name b = between 48 57 b || dash_or_letter b

abbrev pub hex_digit : ℕ → ℕ
hex_digit b = cond (ltb b 58) (b - 48) (b - 87)

-- ---- numbers
-- More digits than these might not fit.
abbrev pub most_digits : ℕ
most_digits = 19

-- none without a digit, with too many, or with another byte
abbrev pub number_of : List ℕ → Option ℕ
number_of ds = cond (eqb (length ds) 0 || (ltb most_digits (length ds) || not (all (in_class Digit) ds))) None (Some (value ds))

-- ---- sheets
-- byte i has its high digit at 2 i and its low digit after that
abbrev pub byte_of : List ℕ → ℕ → ℕ
byte_of ds i = 16 * hex_digit (get_or ds (2 * i) 0) + hex_digit (get_or ds (2 * i + 1) 0)

abbrev pub bytes_of : List ℕ → List ℕ
bytes_of ds = tabulate (byte_of ds) (length ds / 2)

-- they are not hex digits by twos, or there is no room for the bytes
abbrev pub undecodable : List ℕ → List ℕ → Bool
undecodable ds out = not (eqb (length ds % 2) 0) || (ltb (length out) (length ds / 2) || not (all (in_class Hex) ds))

-- the number of bytes
abbrev pub decoded_count : List ℕ → List ℕ → Option ℕ
decoded_count ds out = cond (undecodable ds out) None (Some (length ds / 2))

-- the slice with the bytes at its start; unchanged where there are none
abbrev pub decoded_into : List ℕ → List ℕ → List ℕ
decoded_into ds out = cond (undecodable ds out) out (bytes_of ds ++ drop (length ds / 2) out)

-- digits were decoded into a slice, and the number of bytes is handed back
pub record Decoded (ds before after : List ℕ) (r : Option ℕ) : Type 0 where
  pub count : r ≡ decoded_count ds before
  pub slice : after ≡ decoded_into ds before

-- ---- lines
abbrev pub hash : ℕ
hash = 35

abbrev pub passed_over : List ℕ → Bool
passed_over line = eqb (length line) 0 || eqb (get_or line 0 0) hash

-- read
abbrev pub read_name : List ℕ
read_name = 114 ∷ 101 ∷ 97 ∷ 100 ∷ []

-- set
abbrev pub set_name : List ℕ
set_name = 115 ∷ 101 ∷ 116 ∷ []

-- compare
abbrev pub compare_name : List ℕ
compare_name = 99 ∷ 111 ∷ 109 ∷ 112 ∷ 97 ∷ 114 ∷ 101 ∷ []

-- all
abbrev pub all_name : List ℕ
all_name = 97 ∷ 108 ∷ 108 ∷ []

-- rounds
abbrev pub rounds_name : List ℕ
rounds_name = 114 ∷ 111 ∷ 117 ∷ 110 ∷ 100 ∷ 115 ∷ []

-- the call that a word names
abbrev pub call_of : List ℕ → Option Call
call_of word =
    cond (same_numbers word read_name) (Some Read)
    (cond (same_numbers word set_name) (Some Set)
    (cond (same_numbers word compare_name) (Some Compare)
    (cond (same_numbers word all_name) (Some All) (cond (same_numbers word rounds_name) (Some Rounds) None))))

-- an empty name, or a byte that a name may not have
abbrev pub wrong_name : List ℕ → Bool
wrong_name name = eqb (length name) 0 || not (all (in_class Name) name)

abbrev pub with_numbers : Call → ℕ → ℕ → ℕ → Option ℕ → Option ℕ → Line
with_numbers call name end digits (Some l) (Some r) =
    Holds (record { call = call; name = name; until = end; left = l; right = r; digits = digits })
with_numbers _ name end digits (Some l) None = Malformed
with_numbers _ name end digits None r = Malformed

-- a name from a place on, then two numbers, then the digits
unfoldable pub case_of : Call → List ℕ → ℕ → Line
case_of call line at =
    let p = after_from space line at in
    let q = after_from space line p in
    cond (wrong_name (field_at line at)) Malformed
    (with_numbers call at (end_from space line at) (after_from space line q) (number_of (field_at line p)) (number_of (field_at line q)))

-- a case of the call that the first field names
abbrev pub called_case : Option Call → List ℕ → Line
called_case (Some call) line = case_of call line (after_from space line 0)
called_case None line = Malformed

abbrev pub line_of : List ℕ → Line
line_of line = cond (passed_over line) Passed (called_case (call_of (field_at line 0)) line)

-- a case's name and digits are on its line
pub record Inside (line : List ℕ) (case : Case) : Type 0 where
  pub begins : case.name ≤ case.until
  pub ends : case.until ≤ length line
  pub digits : case.digits ≤ length line
