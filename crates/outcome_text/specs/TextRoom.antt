-- A text in a slice that is lent for it.
use Rattle.std.specs.Prelude.{cond, List, ◌++◌, ℕ, length, drop, ltb}

-- Every text has room in this many bytes; a shorter slice is left as it is.
abbrev pub text_room : ℕ
text_room = 65536

abbrev pub text_length : List ℕ → List ℕ → ℕ
text_length text out = cond (ltb (length out) text_room) 0 (length text)

abbrev pub text_written : List ℕ → List ℕ → List ℕ
text_written text out = cond (ltb (length out) text_room) out (text ++ drop (length text) out)
