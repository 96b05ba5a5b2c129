-- Document 01, "Known sheets": the starred cases and the others that compute quickly, and choices of the document that follow
-- from no theorem, a row each; one statement proves them all. A step's places are those of the set in its order, as document 01
-- prints them for [2] and [4].
use Rattle.std.specs.Prelude.{Bool, not, List, [], ◌∷◌, ◌++◌, map, ℕ, length, take, drop, replicate, T, eqb}
use Rattle.moves.specs.Lists.{select, all, concat_map, same_numbers}
use Rattle.moves.specs.Stores.{closure, passes, pass, conclusions}
use Rattle.moves.specs.Sheet.{Configuration, Sheet, open_within}
use Rattle.sheet_reading.specs.Reading.{records_from, count_at, set_at, name_bytes, name_at, names_from, facts_at, rule_at, rules_at, kind_at, first_at, second_at, node_at, nodes_at, thread_at, threads_from, start_at, starts_at, read_sheet, read_choice}
use Rattle.moves.specs.Moves.{labels, steps_within, moves}
use Rattle.comparison.specs.CallLimits.{limits, desk_limits, work_length, no_reply, report_room}
use Rattle.comparison.specs.Classes.{place_of, numbered_from}
use Rattle.comparison.specs.Set.{explored_from, explored}
use Rattle.comparison.specs.Rounds.{refined, classes, rounds_from, rounds}
use Rattle.comparison.specs.Trail.{TrailStep, trail_from}
use Rattle.comparison.specs.Report.{Verdict, SAME, DIFF, side_byte, reply_number, report_on, report_bytes, Compares}
use Rattle.comparison.specs.Outcome.{reported, refusal, work_after}
use Rattle.comparison.specs.Call.{compare_with, compare, compare_desk, answer_after}
use Rattle.comparison.specs.Print.{printed}
use Rattle.printed_lines.specs.Decimal.{decimal, decimal_within}
use Rattle.comparison.specs.KnownSheets.{bytes_of_k, bytes_of_growing, bytes_of_replies, bytes_of_ties, bytes_of_wide, bytes_of_paper, bytes_of_facts, bytes_of_threads, bytes_of_two_more, bytes_of_tells, bytes_of_standing, bytes_of_nothing, bytes_of_absent, sheet_k, sheet_l, sheet_standing}

-- what the definitions give, and what document 01 says, as numbers
pub record Row : Type 0 where
  pub computed : List ℕ
  pub wanted : List ℕ

-- the two are the same
abbrev pub right : Row → Bool
right r = same_numbers r.computed r.wanted

abbrev pub row : List ℕ → List ℕ → Row
row a b = record { computed = a; wanted = b }

-- ---- outcomes as numbers
abbrev pub verdict_number : Verdict → ℕ
verdict_number SAME = 0
verdict_number DIFF = 1

-- whole: verdict, round, the places of both starts and the answer bytes; or 2, number and place of a refusal
abbrev pub whole : Compares → List ℕ
whole (reported r) = verdict_number r.verdict ∷ r.round ∷ r.left_place ∷ r.right_place ∷ report_bytes r
whole (refusal number place) = 2 ∷ number ∷ place ∷ []

-- a step: side, label, mover's target, reply's target
abbrev pub step_numbers : List Configuration → TrailStep → List ℕ
step_numbers set s = side_byte s.side ∷ s.label ∷ place_of set s.target ∷ reply_number set s.reply ∷ []

-- verdict, round and the steps of the trail; or 2, number and place of a refusal
abbrev pub brief : Compares → List ℕ
brief (reported r) = verdict_number r.verdict ∷ r.round ∷ concat_map (step_numbers r.members) r.steps
brief (refusal number place) = 2 ∷ number ∷ place ∷ []

-- two starts of a sheet compared, with the slices that document 01 asks for
abbrev pub compared : List ℕ → ℕ → ℕ → Compares
compared bytes left right = compare bytes left right work_length (report_room limits)

-- the labels of a node alone at a store
abbrev pub labels_at : Sheet → ℕ → ℕ → List ℕ
labels_at sheet store k = map (λ m. m.label) (moves sheet (record { store = store; threads = k ∷ [] }))

-- the stores that it leads to
abbrev pub stores_at : Sheet → ℕ → ℕ → List ℕ
stores_at sheet store k = map (λ m. m.target.store) (moves sheet (record { store = store; threads = k ∷ [] }))

-- ---- what the call leaves in the slices that were lent, which have these contents before it
abbrev pub answer_left : List ℕ → ℕ → ℕ → List ℕ → List ℕ → List ℕ
answer_left bytes left right work answer = answer_after (compare bytes left right (length work) (length answer)) answer

-- the work slice: its length, how many of its first 16,384 numbers are not 0, and the later ones
abbrev pub work_left : List ℕ → ℕ → ℕ → List ℕ → List ℕ → List ℕ
work_left bytes left right work answer =
    let after = work_after (compare bytes left right (length work) (length answer)) work in
    length after ∷ length (select (λ n. not (eqb n 0)) (take work_length after)) ∷ drop work_length after

-- a work slice with three numbers more than needed, none of them 0
abbrev pub used_work : List ℕ
used_work = replicate work_length 5 ++ (7 ∷ 8 ∷ 9 ∷ [])

-- n bytes, each of them 9
abbrev pub nines : ℕ → List ℕ
nines n = replicate n 9

-- two starts of a sheet compared with other limits
abbrev pub compared_within : ℕ → ℕ → ℕ → List ℕ → ℕ → ℕ → Compares
compared_within members threads moves bytes left right =
    compare_with (record { members = members; threads = threads; moves = moves }) bytes left right work_length (report_room limits)

-- ---- what is wanted, in the same numbers
abbrev pub same_in_lem : ℕ → List ℕ
same_in_lem round = 0 ∷ round ∷ []

abbrev pub step : ℕ → ℕ → ℕ → ℕ → List ℕ
step side label target reply = side ∷ label ∷ target ∷ reply ∷ []

abbrev pub diff_in : ℕ → List (List ℕ) → List ℕ
diff_in round steps = 1 ∷ round ∷ concat_map (λ s. s) steps

abbrev pub refused_as_lem : ℕ → ℕ → List ℕ
refused_as_lem number place = 2 ∷ number ∷ place ∷ []

-- the answer for [2] and [4]: the count of members, the six that document 01 prints (store, thread count, threads, class), and
-- no step
abbrev pub printed_answer : List ℕ
printed_answer =
    6 ∷ 0
    ∷ 0 ∷ 0 ∷ 1 ∷ 2 ∷ 0 ∷ 0
    ∷ 0 ∷ 0 ∷ 1 ∷ 4 ∷ 0 ∷ 0
    ∷ 1 ∷ 0 ∷ 0 ∷ 1 ∷ 0
    ∷ 1 ∷ 0 ∷ 1 ∷ 1 ∷ 2 ∷ 0
    ∷ 3 ∷ 0 ∷ 0 ∷ 3 ∷ 0
    ∷ 3 ∷ 0 ∷ 1 ∷ 1 ∷ 4 ∷ 0
    ∷ 0 ∷ 0 ∷ []

-- the text that document 01 prints for [2] and [4], line by line
abbrev pub printed_text : List ℕ
printed_text =
    83 ∷ 65 ∷ 77 ∷ 69 ∷ 32 ∷ 49 ∷ 10
    ∷ 67 ∷ 79 ∷ 78 ∷ 70 ∷ 73 ∷ 71 ∷ 85 ∷ 82 ∷ 65 ∷ 84 ∷ 73 ∷ 79 ∷ 78 ∷ 83 ∷ 32 ∷ 54 ∷ 10
    ∷ 48 ∷ 32 ∷ 48 ∷ 32 ∷ 48 ∷ 32 ∷ 50 ∷ 10
    ∷ 49 ∷ 32 ∷ 48 ∷ 32 ∷ 48 ∷ 32 ∷ 52 ∷ 10
    ∷ 50 ∷ 32 ∷ 49 ∷ 32 ∷ 49 ∷ 32 ∷ 45 ∷ 10
    ∷ 51 ∷ 32 ∷ 49 ∷ 32 ∷ 50 ∷ 32 ∷ 49 ∷ 10
    ∷ 52 ∷ 32 ∷ 51 ∷ 32 ∷ 51 ∷ 32 ∷ 45 ∷ 10
    ∷ 53 ∷ 32 ∷ 51 ∷ 32 ∷ 52 ∷ 32 ∷ 49 ∷ 10
    ∷ 84 ∷ 82 ∷ 65 ∷ 73 ∷ 76 ∷ 32 ∷ 48 ∷ 10 ∷ []

-- the answer for [8] and [1] of K: three members, [], [1] and [1, 1], and two steps by the left; 36 bytes
abbrev pub eight_answer : List ℕ
eight_answer =
    3 ∷ 0
    ∷ 0 ∷ 0 ∷ 0 ∷ 0 ∷ 0
    ∷ 0 ∷ 0 ∷ 1 ∷ 1 ∷ 1 ∷ 0
    ∷ 0 ∷ 0 ∷ 2 ∷ 1 ∷ 1 ∷ 2 ∷ 0
    ∷ 2 ∷ 0
    ∷ 0 ∷ 0 ∷ 0 ∷ 1 ∷ 0 ∷ 0 ∷ 0
    ∷ 0 ∷ 0 ∷ 0 ∷ 0 ∷ 0 ∷ 255 ∷ 255 ∷ []

-- and its text: DIFF 2, CONFIGURATIONS 3; 0 0 0 -, 1 0 1 1, 2 0 2 1+1; TRAIL 2; L 0 1 0, L 0 0 -
abbrev pub eight_text : List ℕ
eight_text =
    68 ∷ 73 ∷ 70 ∷ 70 ∷ 32 ∷ 50 ∷ 10
    ∷ 67 ∷ 79 ∷ 78 ∷ 70 ∷ 73 ∷ 71 ∷ 85 ∷ 82 ∷ 65 ∷ 84 ∷ 73 ∷ 79 ∷ 78 ∷ 83 ∷ 32 ∷ 51 ∷ 10
    ∷ 48 ∷ 32 ∷ 48 ∷ 32 ∷ 48 ∷ 32 ∷ 45 ∷ 10
    ∷ 49 ∷ 32 ∷ 48 ∷ 32 ∷ 49 ∷ 32 ∷ 49 ∷ 10
    ∷ 50 ∷ 32 ∷ 48 ∷ 32 ∷ 50 ∷ 32 ∷ 49 ∷ 43 ∷ 49 ∷ 10
    ∷ 84 ∷ 82 ∷ 65 ∷ 73 ∷ 76 ∷ 32 ∷ 50 ∷ 10
    ∷ 76 ∷ 32 ∷ 48 ∷ 32 ∷ 49 ∷ 32 ∷ 48 ∷ 10
    ∷ 76 ∷ 32 ∷ 48 ∷ 32 ∷ 48 ∷ 32 ∷ 45 ∷ 10 ∷ []

-- the answer for [2] and [4] of the wide sheet: those two at store 0, [] and [1] at store 258; the right asks and is answered,
-- the left tells and is not
abbrev pub wide_answer : List ℕ
wide_answer =
    4 ∷ 0
    ∷ 0 ∷ 0 ∷ 1 ∷ 2 ∷ 0 ∷ 0
    ∷ 0 ∷ 0 ∷ 1 ∷ 4 ∷ 1 ∷ 0
    ∷ 2 ∷ 1 ∷ 0 ∷ 2 ∷ 0
    ∷ 2 ∷ 1 ∷ 1 ∷ 1 ∷ 3 ∷ 0
    ∷ 2 ∷ 0
    ∷ 1 ∷ 2 ∷ 1 ∷ 2 ∷ 0 ∷ 3 ∷ 0
    ∷ 0 ∷ 0 ∷ 0 ∷ 2 ∷ 0 ∷ 255 ∷ 255 ∷ []

-- and its text: DIFF 2, CONFIGURATIONS 4; 0 0 0 2, 1 0 1 4, 2 258 2 -, 3 258 3 1; TRAIL 2; R 258 2 3, L 0 2 -
abbrev pub wide_text : List ℕ
wide_text =
    68 ∷ 73 ∷ 70 ∷ 70 ∷ 32 ∷ 50 ∷ 10
    ∷ 67 ∷ 79 ∷ 78 ∷ 70 ∷ 73 ∷ 71 ∷ 85 ∷ 82 ∷ 65 ∷ 84 ∷ 73 ∷ 79 ∷ 78 ∷ 83 ∷ 32 ∷ 52 ∷ 10
    ∷ 48 ∷ 32 ∷ 48 ∷ 32 ∷ 48 ∷ 32 ∷ 50 ∷ 10
    ∷ 49 ∷ 32 ∷ 48 ∷ 32 ∷ 49 ∷ 32 ∷ 52 ∷ 10
    ∷ 50 ∷ 32 ∷ 50 ∷ 53 ∷ 56 ∷ 32 ∷ 50 ∷ 32 ∷ 45 ∷ 10
    ∷ 51 ∷ 32 ∷ 50 ∷ 53 ∷ 56 ∷ 32 ∷ 51 ∷ 32 ∷ 49 ∷ 10
    ∷ 84 ∷ 82 ∷ 65 ∷ 73 ∷ 76 ∷ 32 ∷ 50 ∷ 10
    ∷ 82 ∷ 32 ∷ 50 ∷ 53 ∷ 56 ∷ 32 ∷ 50 ∷ 32 ∷ 51 ∷ 10
    ∷ 76 ∷ 32 ∷ 48 ∷ 32 ∷ 50 ∷ 32 ∷ 45 ∷ 10 ∷ []

-- the answer for [1] and [3] of the sheet with standing facts: [], [1] and [3], all at the least store 3; the left tells and is answered by
-- an ask of what stands, and then the right tells; both labels are the least store
abbrev pub standing_answer : List ℕ
standing_answer =
    3 ∷ 0
    ∷ 3 ∷ 0 ∷ 0 ∷ 0 ∷ 0
    ∷ 3 ∷ 0 ∷ 1 ∷ 1 ∷ 1 ∷ 0
    ∷ 3 ∷ 0 ∷ 1 ∷ 3 ∷ 2 ∷ 0
    ∷ 2 ∷ 0
    ∷ 0 ∷ 3 ∷ 0 ∷ 0 ∷ 0 ∷ 1 ∷ 0
    ∷ 1 ∷ 3 ∷ 0 ∷ 0 ∷ 0 ∷ 255 ∷ 255 ∷ []

-- and its text: DIFF 2, CONFIGURATIONS 3; 0 3 0 -, 1 3 1 1, 2 3 2 3; TRAIL 2; L 3 0 1, R 3 0 -
abbrev pub standing_text : List ℕ
standing_text =
    68 ∷ 73 ∷ 70 ∷ 70 ∷ 32 ∷ 50 ∷ 10
    ∷ 67 ∷ 79 ∷ 78 ∷ 70 ∷ 73 ∷ 71 ∷ 85 ∷ 82 ∷ 65 ∷ 84 ∷ 73 ∷ 79 ∷ 78 ∷ 83 ∷ 32 ∷ 51 ∷ 10
    ∷ 48 ∷ 32 ∷ 51 ∷ 32 ∷ 48 ∷ 32 ∷ 45 ∷ 10
    ∷ 49 ∷ 32 ∷ 51 ∷ 32 ∷ 49 ∷ 32 ∷ 49 ∷ 10
    ∷ 50 ∷ 32 ∷ 51 ∷ 32 ∷ 50 ∷ 32 ∷ 51 ∷ 10
    ∷ 84 ∷ 82 ∷ 65 ∷ 73 ∷ 76 ∷ 32 ∷ 50 ∷ 10
    ∷ 76 ∷ 32 ∷ 51 ∷ 32 ∷ 48 ∷ 32 ∷ 49 ∷ 10
    ∷ 82 ∷ 32 ∷ 51 ∷ 32 ∷ 48 ∷ 32 ∷ 45 ∷ 10 ∷ []

-- REFUSED 12 11
abbrev pub refused_text : List ℕ
refused_text = 82 ∷ 69 ∷ 70 ∷ 85 ∷ 83 ∷ 69 ∷ 68 ∷ 32 ∷ 49 ∷ 50 ∷ 32 ∷ 49 ∷ 49 ∷ 10 ∷ []

-- the rows: what the definitions give, then what document 01 says
abbrev pub table : List Row
table =
    -- closures in sheet K
    row (closure sheet_k.rules 2 ∷ []) (3 ∷ [])
    ∷ row (closure sheet_k.rules 4 ∷ []) (4 ∷ [])
    -- node 2 at store 0: label 1, store 1; node 3 at store 1: label 3; at store 3: label 0
    ∷ row (labels_at sheet_k 0 2) (1 ∷ [])
    ∷ row (stores_at sheet_k 0 2) (1 ∷ [])
    ∷ row (labels_at sheet_k 1 3) (3 ∷ [])
    ∷ row (labels_at sheet_k 3 3) (0 ∷ [])
    -- sheet L: ask 4 at store 1 has labels 2 and 4
    ∷ row (labels_at sheet_l 1 2) (2 ∷ 4 ∷ [])
    -- [2] and [4]: SAME 1, places 0 and 1, and the whole answer
    ∷ row (whole (compared bytes_of_k 0 1)) (0 ∷ 1 ∷ 0 ∷ 1 ∷ printed_answer)
    -- the same as the program prints it
    ∷ row (printed (compared bytes_of_k 0 1)) printed_text
    -- [2] and [3]: DIFF 1, one step, left, label 1, no reply
    ∷ row (brief (compared bytes_of_k 0 2)) (diff_in 1 (step 0 1 3 no_reply ∷ []))
    -- [2] and [7]: DIFF 2, one step, right, label 3, no reply
    ∷ row (brief (compared bytes_of_k 0 3)) (diff_in 2 (step 1 3 6 no_reply ∷ []))
    -- [1] and [1] at store 1: DIFF 0, no step
    ∷ row (brief (compared bytes_of_k 4 5)) (diff_in 0 [])
    -- [] twice: SAME 0, no step
    ∷ row (brief (compared bytes_of_k 6 6)) (same_in_lem 0)
    -- [8] and [1]: DIFF 2, two steps by the left
    ∷ row (brief (compared bytes_of_k 7 4)) (diff_in 2 (step 0 0 1 0 ∷ step 0 0 0 no_reply ∷ []))
    -- ---- the paper's running example: S and R + S are alike; S and R' + S are told apart in round 3, by a move with label z < 5
    ∷ row (brief (compared bytes_of_paper 0 1)) (same_in_lem 1)
    ∷ row (brief (compared bytes_of_paper 0 2)) (diff_in 3 (step 1 3 4 no_reply ∷ []))
    -- ---- not starred: a reply is chosen among several by the highest round
    ∷ row (brief (compared bytes_of_replies 0 1)) (diff_in 3 (step 0 0 4 1 ∷ step 0 0 1 0 ∷ step 0 0 0 no_reply ∷ []))
    -- ---- not starred: a set that grows without end; 12 facts and 13; eight threads and nine; no bytes
    ∷ row (brief (compared bytes_of_growing 0 1)) (refused_as_lem 21 0)
    ∷ row (brief (compared (bytes_of_facts 12) 0 1)) (same_in_lem 0)
    ∷ row (brief (compared (bytes_of_facts 13) 0 1)) (refused_as_lem 2 0)
    ∷ row (brief (compared (bytes_of_threads 8) 0 1)) (same_in_lem 8)
    ∷ row (brief (compared (bytes_of_threads 9) 0 1)) (refused_as_lem 12 11)
    ∷ row (brief (compared [] 0 1)) (refused_as_lem 1 0)
    -- ---- not starred: trails. Two replies that tie, at stores 2 and 4: the earlier one; the left moves, though the right could
    ∷ row (brief (compared bytes_of_ties 0 1)) (diff_in 1 (step 0 0 2 3 ∷ []))
    -- two moves without an answer, to stores 2 and 4: the first one
    ∷ row (brief (compared bytes_of_ties 1 0)) (diff_in 1 (step 0 0 3 2 ∷ []))
    -- a step by the right with steps after it; sides are kept
    ∷ row (brief (compared bytes_of_replies 1 0)) (diff_in 3 (step 1 0 4 1 ∷ step 0 0 0 1 ∷ step 1 0 0 no_reply ∷ []))
    -- [7] and [4]: the reply with label 3 is a redundant move of [4]
    ∷ row (brief (compared bytes_of_k 3 1)) (diff_in 2 (step 0 3 6 5 ∷ step 0 0 7 4 ∷ []))
    -- ---- not starred: a whole DIFF with steps by both sides, a label above 255 and no reply at the end; and its text
    ∷ row (whole (compared bytes_of_wide 0 1)) (1 ∷ 2 ∷ 0 ∷ 1 ∷ wide_answer)
    ∷ row (printed (compared bytes_of_wide 0 1)) wide_text
    -- the text of a member with several threads, and of a refusal
    ∷ row (printed (compared bytes_of_k 7 4)) eight_text
    ∷ row (printed (compared (bytes_of_threads 9) 0 1)) refused_text
    -- ---- not starred: the answer slice after a report: its bytes, and those beyond stay
    ∷ row (answer_left bytes_of_k 7 4 used_work (nines 39)) (eight_answer ++ nines 3)
    -- after 22, 21, 23 and a refused sheet it is untouched
    ∷ row (answer_left bytes_of_k 7 4 used_work (nines 35)) (nines 35)
    ∷ row (answer_left bytes_of_growing 0 1 used_work (nines 39)) (nines 39)
    ∷ row (answer_left bytes_of_k 7 4 (nines 3) (nines 39)) (nines 39)
    ∷ row (answer_left [] 0 1 used_work (nines 39)) (nines 39)
    -- the work slice after a report, 22 and 21: 16,384 numbers are 0, later ones untouched
    ∷ row (work_left bytes_of_k 7 4 used_work (nines 39)) (16387 ∷ 0 ∷ 7 ∷ 8 ∷ 9 ∷ [])
    ∷ row (work_left bytes_of_k 7 4 used_work (nines 35)) (16387 ∷ 0 ∷ 7 ∷ 8 ∷ 9 ∷ [])
    ∷ row (work_left bytes_of_growing 0 1 used_work (nines 39)) (16387 ∷ 0 ∷ 7 ∷ 8 ∷ 9 ∷ [])
    -- after 23 and a refused sheet: nothing changes
    ∷ row (work_left bytes_of_k 7 4 (nines 16383) (nines 39)) (16383 ∷ 16383 ∷ [])
    ∷ row (work_left [] 0 1 used_work (nines 39)) (16387 ∷ 16384 ∷ 7 ∷ 8 ∷ 9 ∷ [])
    -- ---- the limits of document 01, and what stands for no reply
    ∷ row (limits.members ∷ limits.threads ∷ limits.moves ∷ work_length ∷ no_reply ∷ []) (512 ∷ 8 ∷ 4096 ∷ 16384 ∷ 65535 ∷ [])
    -- a member of eight threads passes, one of nine is refused
    ∷ row (brief (compared (bytes_of_two_more 6) 0 1)) (same_in_lem 9)
    ∷ row (brief (compared (bytes_of_two_more 7) 0 1)) (refused_as_lem 21 0)
    -- a work slice of 16,383 numbers is refused, one of 16,384 is not; an answer slice of 35 bytes is refused, one of 36 is not
    ∷ row (brief (compare bytes_of_k 7 4 16383 36)) (refused_as_lem 23 0)
    ∷ row (brief (compare bytes_of_k 7 4 16384 35)) (refused_as_lem 22 36)
    ∷ row (whole (compare bytes_of_k 7 4 16384 36)) (1 ∷ 2 ∷ 2 ∷ 1 ∷ eight_answer)
    -- [8] and [1] have three members, one of them of two threads, and two moves: each as a limit passes, one less is refused
    ∷ row (whole (compared_within 3 2 2 bytes_of_k 7 4)) (1 ∷ 2 ∷ 2 ∷ 1 ∷ eight_answer)
    ∷ row (brief (compared_within 2 2 2 bytes_of_k 7 4)) (refused_as_lem 21 0)
    ∷ row (brief (compared_within 3 1 2 bytes_of_k 7 4)) (refused_as_lem 21 0)
    ∷ row (brief (compared_within 3 2 1 bytes_of_k 7 4)) (refused_as_lem 21 0)
    -- ---- document 02, card 3: the desk's limits, and the room that suffices for its reports
    ∷ row (desk_limits.members ∷ desk_limits.threads ∷ desk_limits.moves ∷ report_room desk_limits ∷ []) (64 ∷ 8 ∷ 512 ∷ 1277 ∷ [])
    -- [8] and [1] at the desk: the whole answer, in the room that its limits name; 22 and 23 as before
    ∷ row (whole (compare_desk bytes_of_k 7 4 work_length (report_room desk_limits))) (1 ∷ 2 ∷ 2 ∷ 1 ∷ eight_answer)
    ∷ row (brief (compare_desk bytes_of_k 7 4 work_length 35)) (refused_as_lem 22 36)
    ∷ row (brief (compare_desk bytes_of_k 7 4 16383 36)) (refused_as_lem 23 0)
    -- 64 members pass at the desk and 65 do not; where the answer slice is too short as well, 21 comes first
    ∷ row (brief (compare_desk (bytes_of_tells 31) 0 1 work_length (report_room desk_limits))) (diff_in 0 [])
    ∷ row (brief (compare_desk (bytes_of_tells 64) 0 1 work_length 0)) (refused_as_lem 21 0)
    -- and so with any limits
    ∷ row (brief (compare_with (record { members = 2; threads = 2; moves = 2 }) bytes_of_k 7 4 work_length 35)) (refused_as_lem 21 0)
    -- ---- document 02, card 2: the least store is 3, and every closure includes it
    ∷ row (map (closure sheet_standing.rules) (0 ∷ 1 ∷ 2 ∷ 3 ∷ 4 ∷ 5 ∷ 6 ∷ 7 ∷ [])) (3 ∷ 3 ∷ 3 ∷ 3 ∷ 7 ∷ 7 ∷ 7 ∷ 7 ∷ [])
    -- a tell of nothing: label 3, store 3; an ask of 4: label 7, store 7; of what stands: label 3, store 3; either: both
    ∷ row (labels_at sheet_standing 3 1 ++ stores_at sheet_standing 3 1) (3 ∷ 3 ∷ [])
    ∷ row (labels_at sheet_standing 3 2 ++ stores_at sheet_standing 3 2) (7 ∷ 7 ∷ [])
    ∷ row (labels_at sheet_standing 3 3 ++ stores_at sheet_standing 3 3) (3 ∷ 3 ∷ [])
    ∷ row (labels_at sheet_standing 3 4 ++ stores_at sheet_standing 3 4) (3 ∷ 7 ∷ 3 ∷ 7 ∷ [])
    -- [1] and [3]: a whole DIFF, and its text
    ∷ row (whole (compared bytes_of_standing 0 1)) (1 ∷ 2 ∷ 1 ∷ 2 ∷ standing_answer)
    ∷ row (printed (compared bytes_of_standing 0 1)) standing_text
    -- [2] and [4]: the ask of 4 is answered, that of what stands is not; [2] with itself: its result is round 1
    ∷ row (brief (compared bytes_of_standing 2 3)) (diff_in 1 (step 1 3 1 no_reply ∷ []))
    ∷ row (brief (compared bytes_of_standing 2 2)) (same_in_lem 1)
    -- [3] and [4]: waiting for 4 as well makes no difference beside an ask of what stands
    ∷ row (brief (compared bytes_of_standing 1 3)) (same_in_lem 2)
    -- a rule with nothing on both sides says nothing; 5 holds for both sets of a rule
    ∷ row (brief (compared bytes_of_nothing 0 1)) (diff_in 1 (step 0 0 0 no_reply ∷ []))
    ∷ row (brief (compared bytes_of_absent 0 1)) (refused_as_lem 5 28)
    ∷ []

pub all_right : T (all right table)
unfolding closure passes pass conclusions moves steps_within labels open_within read_sheet read_choice records_from count_at set_at name_bytes name_at names_from facts_at rule_at rules_at kind_at first_at second_at node_at nodes_at thread_at threads_from start_at starts_at numbered_from refined classes rounds_from rounds explored_from explored trail_from report_on compare_with decimal decimal_within
all_right = tt
