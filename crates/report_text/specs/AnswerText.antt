-- The text of an answer's bytes, whatever they are: a byte beyond the end counts as 0, a count above its limit as the limit.
use Rattle.std.specs.Prelude.{Bool, true, false, List, [], ◌∷◌, ◌++◌, ℕ, ◌+◌, get_or}
use Rattle.text.specs.Lines.{space, line_feed, field, line}
use Rattle.report_fields.specs.SheetBytes.{word}
use Rattle.report_fields.specs.Sheet.{Configuration}
use Rattle.report_fields.specs.Report.{SAME, DIFF}
use Rattle.report_fields.specs.Print.{verdict_word, configurations_word, trail_word, member_line}
use Rattle.report_fields.specs.AnswerFields.{count_in, thread_count, threads_in, letter_of, reply_of}
use Rattle.report_text.specs.Runs.{place_after, lines_of}

-- the member that begins at a place
abbrev pub member_in : List ℕ → ℕ → Configuration
member_in s from = record { store = word s from; threads = threads_in s (from + 3) (thread_count s from) }

-- its class, which stands after the threads
abbrev pub class_in : List ℕ → ℕ → ℕ
class_in s from = word s (from + 3 + thread_count s from)

-- where it ends
abbrev pub member_end : List ℕ → ℕ → ℕ
member_end s from = from + 5 + thread_count s from

-- the line of the member that begins at a place, with its position
abbrev pub member_text : List ℕ → ℕ → ℕ → List ℕ
member_text s position from = member_line position (member_in s from) (class_in s from)

-- the lines of n members: they begin after their two-byte count
abbrev pub members_text : List ℕ → ℕ → List ℕ
members_text s n = lines_of (member_text s) (member_end s) 2 n

-- where n members end
abbrev pub members_end : List ℕ → ℕ → ℕ
members_end s n = place_after (member_end s) 2 n

-- the line of the step that begins at a place: side, label, target, reply
abbrev pub step_text : List ℕ → ℕ → List ℕ
step_text s from =
    (letter_of (get_or s from 0) ∷ [])
    ++ field (word s (from + 1))
    ++ field (word s (from + 3))
    ++ (space ∷ reply_of (word s (from + 5)))
    ++ (line_feed ∷ [])

-- where a step ends: it has seven bytes
abbrev pub step_end : ℕ → ℕ
step_end from = from + 7

-- the lines of n steps from a place on
abbrev pub steps_text : List ℕ → ℕ → ℕ → List ℕ
steps_text s start n = lines_of (λ _ from. step_text s from) step_end start n

-- SAME or DIFF
abbrev pub word_of : Bool → List ℕ
word_of true = verdict_word SAME
word_of false = verdict_word DIFF

-- where the count of steps stands
abbrev pub trail_place : List ℕ → ℕ
trail_place s = members_end s (count_in s 0)

-- the whole text: verdict and round, the members, the steps
abbrev pub answer_text : Bool → ℕ → List ℕ → List ℕ
answer_text same round s =
    line (word_of same) (round ∷ [])
    ++ line configurations_word (count_in s 0 ∷ [])
    ++ members_text s (count_in s 0)
    ++ line trail_word (count_in s (trail_place s) ∷ [])
    ++ steps_text s (trail_place s + 2) (count_in s (trail_place s))
