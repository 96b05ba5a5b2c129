-- Rows for the call for so many rounds, on document 01's sheet K and on a sheet with facts that always stand; one statement proves them
-- all.
use Rattle.std.specs.Prelude.{List, [], ◌∷◌, ◌++◌, ℕ, T, length, drop}
use Rattle.answers.specs.Lists.{all}
use Rattle.answers.specs.Stores.{closure, passes, pass, conclusions}
use Rattle.answers.specs.Sheet.{open_within}
use Rattle.answers.specs.Reading.{records_from, count_at, set_at, name_bytes, name_at, names_from, facts_at, rule_at, rules_at, kind_at, first_at, second_at, node_at, nodes_at, thread_at, threads_from, start_at, starts_at, read_sheet, read_choice}
use Rattle.answers.specs.Moves.{labels, steps_within, moves}
use Rattle.answers.specs.CallLimits.{Limits, limits, desk_limits, work_length}
use Rattle.answers.specs.Classes.{numbered_from, class_total}
use Rattle.answers.specs.Set.{explored_from, explored}
use Rattle.answers.specs.Rounds.{refined, classes}
use Rattle.answers.specs.Outcome.{reported, refusal}
use Rattle.answers.specs.KnownSheets.{bytes_of_k, bytes_of_tells, bytes_of_standing}
use Rattle.answers.specs.KnownCases.{Row, row, right, nines}
use Rattle.answers.specs.ReadBack.{members_read, classes_read}
use Rattle.after_rounds.specs.AfterRounds.{Verdict, SAME, DIFF, OPEN, AfterRounds, Afters, after_on, after_bytes, after_length, after_written, after_room, compare_rounds_with, compare_rounds, compare_rounds_desk}
use Rattle.after_rounds.specs.AfterRoundsRead.{after_read, reached_of}

abbrev verdict_number : Verdict → ℕ
verdict_number SAME = 0
verdict_number DIFF = 1
verdict_number OPEN = 2

-- verdict, the number of classes, the set's size and the length
abbrev numbers_of : AfterRounds → List ℕ
numbers_of a = verdict_number a.verdict ∷ class_total a.classes ∷ length a.members ∷ after_length a ∷ []

-- whole: 0, those numbers and the bytes; or 1, number and place of a refusal
abbrev whole : Afters → List ℕ
whole (reported a) = 0 ∷ numbers_of a ++ after_bytes a
whole (refusal number place) = 1 ∷ number ∷ place ∷ []

-- without the bytes
abbrev brief : Afters → List ℕ
brief (reported a) = 0 ∷ numbers_of a
brief (refusal number place) = 1 ∷ number ∷ place ∷ []

-- the verdict and the classes that are read back
abbrev read_again : Afters → List ℕ
read_again (reported a) = let b = after_read (reached_of a) (after_bytes a ++ nines 3) in verdict_number b.verdict ∷ b.classes
read_again (refusal number place) = []

-- two starts of K after k rounds
abbrev after : ℕ → ℕ → ℕ → Afters
after left right k = compare_rounds bytes_of_k left right k work_length (after_room limits)

abbrev within : ℕ → ℕ → ℕ → Limits
within members threads moves = record { members = members; threads = threads; moves = moves }

-- [2] and [4]: two members at store 0, two at store 1, two at store 3; in round 1 only [2] and [4] share a class
abbrev first : List ℕ
first =
    6 ∷ 0
    ∷ 0 ∷ 0 ∷ 1 ∷ 2 ∷ 0 ∷ 0
    ∷ 0 ∷ 0 ∷ 1 ∷ 4 ∷ 0 ∷ 0
    ∷ 1 ∷ 0 ∷ 0 ∷ 1 ∷ 0
    ∷ 1 ∷ 0 ∷ 1 ∷ 1 ∷ 1 ∷ 0
    ∷ 3 ∷ 0 ∷ 0 ∷ 2 ∷ 0
    ∷ 3 ∷ 0 ∷ 1 ∷ 1 ∷ 2 ∷ 0 ∷ []

abbrev second : List ℕ
second =
    6 ∷ 0
    ∷ 0 ∷ 0 ∷ 1 ∷ 2 ∷ 0 ∷ 0
    ∷ 0 ∷ 0 ∷ 1 ∷ 4 ∷ 0 ∷ 0
    ∷ 1 ∷ 0 ∷ 0 ∷ 1 ∷ 0
    ∷ 1 ∷ 0 ∷ 1 ∷ 1 ∷ 2 ∷ 0
    ∷ 3 ∷ 0 ∷ 0 ∷ 3 ∷ 0
    ∷ 3 ∷ 0 ∷ 1 ∷ 1 ∷ 4 ∷ 0 ∷ []

abbrev table : List Row
table =
    -- [2] and [4] are the same, which round 0 leaves open, since others still part
    row (whole (after 0 1 0)) (0 ∷ 2 ∷ 3 ∷ 6 ∷ 36 ∷ first)
    ∷ row (whole (after 0 1 1)) (0 ∷ 0 ∷ 5 ∷ 6 ∷ 36 ∷ second)
    -- more rounds than are needed
    ∷ row (whole (after 0 1 3)) (0 ∷ 0 ∷ 5 ∷ 6 ∷ 36 ∷ second)
    -- [2] and [3] part in round 1, [2] and [7] in round 2
    ∷ row (brief (after 0 2 0)) (0 ∷ 2 ∷ 3 ∷ 6 ∷ 36 ∷ [])
    ∷ row (brief (after 0 2 1)) (0 ∷ 1 ∷ 6 ∷ 6 ∷ 36 ∷ [])
    ∷ row (brief (after 0 3 1)) (0 ∷ 2 ∷ 7 ∷ 8 ∷ 47 ∷ [])
    ∷ row (brief (after 0 3 2)) (0 ∷ 1 ∷ 8 ∷ 8 ∷ 47 ∷ [])
    -- unequal stores: apart in round 0, while others still part
    ∷ row (whole (after 4 5 0)) (0 ∷ 1 ∷ 2 ∷ 4 ∷ 24 ∷ 4 ∷ 0 ∷ 0 ∷ 0 ∷ 0 ∷ 0 ∷ 0 ∷ 0 ∷ 0 ∷ 1 ∷ 1 ∷ 0 ∷ 0 ∷ 1 ∷ 0 ∷ 0 ∷ 1 ∷ 0 ∷ 1 ∷ 0 ∷ 1 ∷ 1 ∷ 1 ∷ 0 ∷ [])
    ∷ row (brief (after 4 5 1)) (0 ∷ 1 ∷ 4 ∷ 4 ∷ 24 ∷ [])
    -- one start twice, with nothing to do
    ∷ row (brief (after 6 6 0)) (0 ∷ 0 ∷ 1 ∷ 1 ∷ 7 ∷ [])
    -- document 02, card 2, least store 3: [1] and [3] part in round 2
    ∷ row (brief (compare_rounds bytes_of_standing 0 1 0 work_length 19)) (0 ∷ 2 ∷ 1 ∷ 3 ∷ 19 ∷ [])
    ∷ row (brief (compare_rounds bytes_of_standing 0 1 1 work_length 19)) (0 ∷ 2 ∷ 2 ∷ 3 ∷ 19 ∷ [])
    ∷ row (whole (compare_rounds bytes_of_standing 0 1 2 work_length 19))
    (0 ∷ 1 ∷ 3 ∷ 3 ∷ 19 ∷ 3 ∷ 0 ∷ 3 ∷ 0 ∷ 0 ∷ 0 ∷ 0 ∷ 3 ∷ 0 ∷ 1 ∷ 1 ∷ 1 ∷ 0 ∷ 3 ∷ 0 ∷ 1 ∷ 3 ∷ 2 ∷ 0 ∷ [])
    -- what is read back
    ∷ row (read_again (after 0 1 0)) (2 ∷ 0 ∷ 0 ∷ 1 ∷ 1 ∷ 2 ∷ 2 ∷ [])
    ∷ row (read_again (after 0 1 1)) (0 ∷ 0 ∷ 0 ∷ 1 ∷ 2 ∷ 3 ∷ 4 ∷ [])
    ∷ row (read_again (after 0 2 1)) (1 ∷ 0 ∷ 1 ∷ 2 ∷ 3 ∷ 4 ∷ 5 ∷ [])
    -- bytes beyond the answer stay, and a refusal leaves the slice as it is
    ∷ row (after_written (compare_rounds bytes_of_k 0 1 1 work_length 38) (nines 38)) (second ++ nines 2)
    ∷ row (after_written (compare_rounds bytes_of_k 0 1 1 work_length 35) (nines 35)) (nines 35)
    -- by the sheet, 14, 23, 21 and 22 in this order; 22 at the length without a trail
    ∷ row (brief (compare_rounds (drop 1 bytes_of_k) 0 8 0 0 0)) (1 ∷ 2 ∷ 0 ∷ [])
    ∷ row (brief (compare_rounds bytes_of_k 0 8 0 0 0)) (1 ∷ 14 ∷ 1 ∷ [])
    ∷ row (brief (compare_rounds bytes_of_k 0 1 0 16383 0)) (1 ∷ 23 ∷ 0 ∷ [])
    ∷ row (brief (compare_rounds_with (within 5 8 4096) bytes_of_k 0 1 0 work_length 0)) (1 ∷ 21 ∷ 0 ∷ [])
    ∷ row (brief (compare_rounds bytes_of_k 0 1 0 work_length 35)) (1 ∷ 22 ∷ 36 ∷ [])
    ∷ row (brief (compare_rounds bytes_of_k 0 1 0 work_length 36)) (0 ∷ 2 ∷ 3 ∷ 6 ∷ 36 ∷ [])
    -- at the desk the same, within its limits
    ∷ row (whole (compare_rounds_desk bytes_of_k 0 1 1 work_length (after_room desk_limits))) (0 ∷ 0 ∷ 5 ∷ 6 ∷ 36 ∷ second)
    ∷ row (brief (compare_rounds_desk (bytes_of_tells 64) 0 1 0 work_length 0)) (1 ∷ 21 ∷ 0 ∷ [])
    ∷ []

pub afters_right : T (all right table)
unfolding closure passes pass conclusions moves steps_within labels open_within read_sheet read_choice records_from count_at set_at name_bytes name_at names_from facts_at rule_at rules_at kind_at first_at second_at node_at nodes_at thread_at threads_from start_at starts_at numbered_from refined classes explored_from explored after_on compare_rounds_with members_read classes_read
afters_right = tt
