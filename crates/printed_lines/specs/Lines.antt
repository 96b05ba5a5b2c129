-- Lines of output (document 01, "Known sheets", the program): fields parted by one space, each line ended by a line feed.
use Rattle.std.specs.Prelude.{List, [], ◌∷◌, ◌++◌, ℕ}
use Rattle.printed_lines.specs.Decimal.{decimal}

abbrev pub space : ℕ
space = 32

abbrev pub line_feed : ℕ
line_feed = 10

-- a number as a field after the first
abbrev pub field : ℕ → List ℕ
field n = space ∷ decimal n

-- numbers after a word, and the line's end
abbrev pub fields : List ℕ → List ℕ
fields [] = line_feed ∷ []
fields (n ∷ ns) = field n ++ fields ns

-- a word, and numbers after it
abbrev pub line : List ℕ → List ℕ → List ℕ
line word numbers = word ++ fields numbers

-- REFUSED
abbrev pub refused_word : List ℕ
refused_word = 82 ∷ 69 ∷ 70 ∷ 85 ∷ 83 ∷ 69 ∷ 68 ∷ []

-- READ
abbrev pub read_word : List ℕ
read_word = 82 ∷ 69 ∷ 65 ∷ 68 ∷ []
