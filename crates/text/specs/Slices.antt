-- Text in a slice: what storing a text from a place on leaves, and what writing a line does.
use Rattle.std.specs.Prelude.{◌≡◌, cond, List, ◌++◌, ℕ, ◌+◌, ◌≤◌, length, take, drop, ltb}
use Rattle.std.proofs.lemmas.List.Edits.{sets}

-- a text was stored from a place on, and the next place is the one after it
pub record Stored (before : List ℕ) (at : ℕ) (text after : List ℕ) (next : ℕ) : Type 0 where
  pub place : next ≡ at + length text
  pub list : after ≡ sets before at text

-- Every line has room in this many bytes; a shorter slice is left as it is.
abbrev pub line_room : ℕ
line_room = 128

abbrev pub line_length : List ℕ → List ℕ → ℕ
line_length text out = cond (ltb (length out) line_room) 0 (length text)

abbrev pub line_written : List ℕ → List ℕ → List ℕ
line_written text out = cond (ltb (length out) line_room) out (text ++ drop (length text) out)

-- A line was written into a slice, and its length is handed back. The last two follow, and say that the slice's first r
-- bytes can be lent.
pub record Written (text before after : List ℕ) (r : ℕ) : Type 0 where
  pub count : r ≡ line_length text before
  pub slice : after ≡ line_written text before
  pub inside : r ≤ length after
  pub counted : r ≡ length (take r after)
