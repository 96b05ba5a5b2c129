-- Fields of an answer's bytes, whatever they are: a byte beyond the end counts as 0, a count above its limit as the limit.
use Rattle.std.specs.Prelude.{cond, List, [], ◌∷◌, ℕ, ◌+◌, min, get_or, eqb}
use Rattle.text.specs.Tabulate.{tabulate}
use Rattle.text.specs.Decimal.{decimal}
use Rattle.comparison.specs.SheetLimits.{max_threads}
use Rattle.comparison.specs.SheetBytes.{word}
use Rattle.comparison.specs.CallLimits.{no_reply, limits}
use Rattle.comparison.specs.Print.{hyphen}

-- a two-byte count of members or of steps, which is at most 512
abbrev pub count_in : List ℕ → ℕ → ℕ
count_in s at = min (word s at) limits.members

-- the count of threads in the member that begins at a place, which is at most 8
abbrev pub thread_count : List ℕ → ℕ → ℕ
thread_count s from = min (get_or s (from + 2) 0) max_threads

-- n threads from a place on
abbrev pub threads_in : List ℕ → ℕ → ℕ → List ℕ
threads_in s from n = tabulate (λ j. get_or s (from + j) 0) n

-- L for side 0, R for any other
abbrev pub letter_of : ℕ → ℕ
letter_of side = cond (eqb side 0) 76 82

-- the number of a reply, or - for 65535
abbrev pub reply_of : ℕ → List ℕ
reply_of number = cond (eqb number no_reply) (hyphen ∷ []) (decimal number)
