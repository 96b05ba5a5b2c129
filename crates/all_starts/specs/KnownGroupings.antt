-- Rows for the call for all starts, on document 01's sheet K with all its eight starts, and with three that are one member, and on a sheet
-- with facts that always stand; one statement proves them all.
use Rattle.std.specs.Prelude.{List, [], ◌∷◌, ◌++◌, ℕ, T, drop}
use Rattle.answers.specs.Lists.{all}
use Rattle.answers.specs.Stores.{closure, passes, pass, conclusions}
use Rattle.answers.specs.Sheet.{open_within}
use Rattle.answers.specs.Reading.{records_from, count_at, set_at, name_bytes, name_at, names_from, facts_at, rule_at, rules_at, kind_at, first_at, second_at, node_at, nodes_at, thread_at, threads_from, start_at, starts_at, read_sheet}
use Rattle.answers.specs.Moves.{labels, steps_within, moves}
use Rattle.answers.specs.CallLimits.{limits, work_length}
use Rattle.answers.specs.Classes.{numbered_from}
use Rattle.answers.specs.Set.{explored_from, explored}
use Rattle.answers.specs.Rounds.{refined, classes, rounds_from, rounds}
use Rattle.answers.specs.Outcome.{reported, refusal}
use Rattle.answers.specs.KnownSheets.{rule, start, section, three_facts, nodes_of_k, bytes_of_k, bytes_of_standing}
use Rattle.answers.specs.KnownCases.{Row, row, right, nines}
use Rattle.answers.specs.ReadBack.{members_read, classes_read, behind_members}
use Rattle.all_starts.specs.Grouping.{Groups, grouping_on, grouping_bytes, grouping_length, grouping_after, grouping_room, compare_all_with, compare_all}
use Rattle.all_starts.specs.GroupingRead.{words_read, grouping_read, grouped_of}

-- whole: 0, the round, the length and the bytes; or 1, number and place of a refusal
abbrev whole : Groups → List ℕ
whole (reported g) = 0 ∷ g.round ∷ grouping_length g ∷ grouping_bytes g
whole (refusal number place) = 1 ∷ number ∷ place ∷ []

-- the numbers of a refusal
abbrev refused_as_lem : ℕ → ℕ → List ℕ
refused_as_lem number place = 1 ∷ number ∷ place ∷ []

-- the classes of the starts that are read back
abbrev read_back_lem : Groups → List ℕ
read_back_lem (reported g) = (grouping_read (grouped_of g) (grouping_bytes g ++ nines 3)).start_classes
read_back_lem (refusal number place) = []

-- thirteen members (store, thread count, threads, class), and the classes of [2], [4], [3], [7], [1], [1] at store 1, [] and [8], which is
-- opened to two threads at node 1
abbrev answer_of_k : List ℕ
answer_of_k =
    13 ∷ 0
    ∷ 0 ∷ 0 ∷ 0 ∷ 0 ∷ 0
    ∷ 0 ∷ 0 ∷ 1 ∷ 1 ∷ 1 ∷ 0
    ∷ 0 ∷ 0 ∷ 1 ∷ 2 ∷ 2 ∷ 0
    ∷ 0 ∷ 0 ∷ 1 ∷ 3 ∷ 3 ∷ 0
    ∷ 0 ∷ 0 ∷ 1 ∷ 4 ∷ 2 ∷ 0
    ∷ 0 ∷ 0 ∷ 1 ∷ 7 ∷ 4 ∷ 0
    ∷ 0 ∷ 0 ∷ 2 ∷ 1 ∷ 1 ∷ 5 ∷ 0
    ∷ 1 ∷ 0 ∷ 0 ∷ 6 ∷ 0
    ∷ 1 ∷ 0 ∷ 1 ∷ 1 ∷ 7 ∷ 0
    ∷ 3 ∷ 0 ∷ 0 ∷ 8 ∷ 0
    ∷ 3 ∷ 0 ∷ 1 ∷ 1 ∷ 9 ∷ 0
    ∷ 3 ∷ 0 ∷ 1 ∷ 5 ∷ 10 ∷ 0
    ∷ 7 ∷ 0 ∷ 0 ∷ 11 ∷ 0
    ∷ 2 ∷ 0 ∷ 2 ∷ 0 ∷ 3 ∷ 0 ∷ 4 ∷ 0 ∷ 1 ∷ 0 ∷ 7 ∷ 0 ∷ 0 ∷ 0 ∷ 5 ∷ 0 ∷ []

-- the nodes of K with three starts that are the same once opened: [8], [1, 1] and [0, 1, 0, 1]
abbrev bytes_of_equal : List ℕ
bytes_of_equal =
    three_facts
    ++ (section (rule 2 1 ∷ [])
    ++ (section nodes_of_k ++ section (start 0 (8 ∷ []) ∷ start 0 (1 ∷ 1 ∷ []) ∷ start 0 (0 ∷ 1 ∷ 0 ∷ 1 ∷ []) ∷ [])))

-- document 02, card 2: seven members, at the least store 3 and at 7, and the classes of [1], [3], [2] and [4]; an ask of what stands and
-- the choice of that ask or one that waits for more are alike
abbrev standing_answer : List ℕ
standing_answer =
    7 ∷ 0
    ∷ 3 ∷ 0 ∷ 0 ∷ 0 ∷ 0
    ∷ 3 ∷ 0 ∷ 1 ∷ 1 ∷ 1 ∷ 0
    ∷ 3 ∷ 0 ∷ 1 ∷ 2 ∷ 2 ∷ 0
    ∷ 3 ∷ 0 ∷ 1 ∷ 3 ∷ 3 ∷ 0
    ∷ 3 ∷ 0 ∷ 1 ∷ 4 ∷ 3 ∷ 0
    ∷ 7 ∷ 0 ∷ 0 ∷ 4 ∷ 0
    ∷ 7 ∷ 0 ∷ 1 ∷ 1 ∷ 5 ∷ 0
    ∷ 1 ∷ 0 ∷ 3 ∷ 0 ∷ 2 ∷ 0 ∷ 3 ∷ 0 ∷ []

abbrev table : List Row
table =
    row (whole (compare_all bytes_of_k work_length (grouping_room limits))) (0 ∷ 2 ∷ 93 ∷ answer_of_k)
    -- equal starts are one member, and each has its class
    ∷ row (whole (compare_all bytes_of_equal work_length 26))
    (0 ∷ 2 ∷ 26 ∷ 3 ∷ 0 ∷ 0 ∷ 0 ∷ 0 ∷ 0 ∷ 0 ∷ 0 ∷ 0 ∷ 1 ∷ 1 ∷ 1 ∷ 0 ∷ 0 ∷ 0 ∷ 2 ∷ 1 ∷ 1 ∷ 2 ∷ 0 ∷ 2 ∷ 0 ∷ 2 ∷ 0 ∷ 2 ∷ 0 ∷ [])
    -- facts that always stand
    ∷ row (whole (compare_all bytes_of_standing work_length 50)) (0 ∷ 2 ∷ 50 ∷ standing_answer)
    -- bytes beyond the answer stay, and a refusal leaves the slice as it is
    ∷ row (grouping_after (compare_all bytes_of_k work_length 95) (nines 95)) (answer_of_k ++ nines 2)
    ∷ row (grouping_after (compare_all bytes_of_k work_length 92) (nines 92)) (nines 92)
    -- two bytes for each start are read back
    ∷ row (read_back_lem (compare_all bytes_of_k work_length 93)) (2 ∷ 2 ∷ 3 ∷ 4 ∷ 1 ∷ 7 ∷ 0 ∷ 5 ∷ [])
    -- by the sheet, 23, 21 and 22 in this order
    ∷ row (whole (compare_all (drop 1 bytes_of_k) 0 0)) (refused_as_lem 2 0)
    ∷ row (whole (compare_all bytes_of_k 16383 0)) (refused_as_lem 23 0)
    ∷ row (whole (compare_all_with (record { members = 12; threads = 8; moves = 4096 }) bytes_of_k work_length 0)) (refused_as_lem 21 0)
    ∷ row (whole (compare_all bytes_of_k work_length 92)) (refused_as_lem 22 93)
    ∷ []

pub groupings_right : T (all right table)
unfolding closure passes pass conclusions moves steps_within labels open_within read_sheet records_from count_at set_at name_bytes name_at names_from facts_at rule_at rules_at kind_at first_at second_at node_at nodes_at thread_at threads_from start_at starts_at numbered_from refined classes rounds_from rounds explored_from explored grouping_on compare_all_with members_read classes_read behind_members words_read
groupings_right = tt
