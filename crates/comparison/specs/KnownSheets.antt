-- Document 01, "Known sheets": the bytes of the sheets, and what reading K and L gives; further small sheets.
use Rattle.std.specs.Prelude.{◌≡◌, refl, List, [], ◌∷◌, ◌++◌, ℕ, zero, suc, ◌/◌, ◌%◌, length}
use Rattle.moves.specs.Lists.{concat_map}
use Rattle.moves.specs.Stores.{Rule, closure, passes, pass, conclusions}
use Rattle.moves.specs.Sheet.{stop, tell, ask, both, either, Sheet, open_within}
use Rattle.sheet_reading.specs.Reading.{got, records_from, count_at, set_at, name_bytes, name_at, names_from, facts_at, rule_at, rules_at, kind_at, first_at, second_at, node_at, nodes_at, thread_at, threads_from, start_at, starts_at, read_sheet}

-- ---- records as bytes
-- two bytes, the low one first
abbrev pub word : ℕ → List ℕ
word n = n % 256 ∷ n / 256 ∷ []

-- the name "fact", a space, one more printable byte and two spaces
abbrev pub name_bytes_of : ℕ → List ℕ
name_bytes_of b = 102 ∷ 97 ∷ 99 ∷ 116 ∷ 32 ∷ b ∷ 32 ∷ 32 ∷ []

-- "gives": premise set, conclusion set
abbrev pub rule : ℕ → ℕ → List ℕ
rule premise conclusion = word premise ++ word conclusion

-- kind byte and two fields
abbrev pub node : ℕ → ℕ → ℕ → List ℕ
node kind first second = kind ∷ word first ++ word second

-- store, thread count, threads
abbrev pub start : ℕ → List ℕ → List ℕ
start store threads = word store ++ (length threads ∷ threads)

-- a section: its count, then its records
abbrev pub section : List (List ℕ) → List ℕ
section records = length records ∷ concat_map (λ r. r) records

-- facts 0, 1 and 2
abbrev pub three_facts : List ℕ
three_facts = section (name_bytes_of 48 ∷ name_bytes_of 49 ∷ name_bytes_of 50 ∷ [])

-- ---- sheet K: 2 gives 1. Its starts, 0 to 7: [2], [4], [3], [7], [1], [1] at store 1, [], [8].
abbrev pub nodes_of_k : List (List ℕ)
nodes_of_k =
    node 0 0 0 ∷ node 1 0 0 ∷ node 2 1 1 ∷ node 2 2 1 ∷ node 4 2 3 ∷ node 1 4 0 ∷ node 2 2 5 ∷ node 4 2 6 ∷ node 3 1 1 ∷ []

abbrev pub starts_of_k : List (List ℕ)
starts_of_k =
    start 0 (2 ∷ []) ∷ start 0 (4 ∷ []) ∷ start 0 (3 ∷ []) ∷ start 0 (7 ∷ []) ∷ start 0 (1 ∷ []) ∷ start 1 (1 ∷ []) ∷ start 0 [] ∷ start 0 (8 ∷ []) ∷ []

abbrev pub bytes_of_k : List ℕ
bytes_of_k = three_facts ++ (section (rule 2 1 ∷ []) ++ (section nodes_of_k ++ section starts_of_k))

abbrev pub two_gives_one : Rule
two_gives_one = record { premise = 2; conclusion = 1 }

-- the set 2 of nodes 3 and 6 is closed on reading, and node 8 of the last start is opened
abbrev pub sheet_k : Sheet
sheet_k =
    record {
      facts = 3;
      rules = two_gives_one ∷ [];
      nodes = stop ∷ tell 0 ∷ ask 1 1 ∷ ask 3 1 ∷ either 2 3 ∷ tell 4 ∷ ask 3 5 ∷ either 2 6 ∷ both 1 1 ∷ [];
      starts =
          record { store = 0; threads = 2 ∷ [] } ∷ record { store = 0; threads = 4 ∷ [] } ∷ record { store = 0; threads = 3 ∷ [] }
          ∷ record { store = 0; threads = 7 ∷ [] } ∷ record { store = 0; threads = 1 ∷ [] } ∷ record { store = 1; threads = 1 ∷ [] }
          ∷ record { store = 0; threads = [] } ∷ record { store = 0; threads = 1 ∷ 1 ∷ [] } ∷ [];
    }

-- ---- sheet L: 3 gives 4. Its starts, 0 and 1: ask 4 at store 1 and at store 0.
abbrev pub nodes_of_l : List (List ℕ)
nodes_of_l = node 0 0 0 ∷ node 1 0 0 ∷ node 2 4 1 ∷ []

abbrev pub bytes_of_l : List ℕ
bytes_of_l = three_facts ++ (section (rule 3 4 ∷ []) ++ (section nodes_of_l ++ section (start 1 (2 ∷ []) ∷ start 0 (2 ∷ []) ∷ [])))

abbrev pub three_gives_four : Rule
three_gives_four = record { premise = 3; conclusion = 4 }

abbrev pub sheet_l : Sheet
sheet_l =
    record {
      facts = 3;
      rules = three_gives_four ∷ [];
      nodes = stop ∷ tell 0 ∷ ask 4 1 ∷ [];
      starts = record { store = 1; threads = 2 ∷ [] } ∷ record { store = 0; threads = 2 ∷ [] } ∷ [];
    }

-- ---- a set without end: tell 0; ask 0 then 2; both 0 1, started twice at node 1. No facts, no rules.
abbrev pub bytes_of_growing : List ℕ
bytes_of_growing =
    section [] ++ (section [] ++ (section (node 1 0 0 ∷ node 2 0 2 ∷ node 3 0 1 ∷ []) ++ section (start 0 (1 ∷ []) ∷ start 0 (1 ∷ []) ∷ [])))

-- ---- sheets at a limit and past it
-- n times the same record
abbrev pub times : ℕ → List ℕ → List (List ℕ)
times zero r = []
times (suc n) r = r ∷ times n r

-- n tells of ascending sets, and n eithers, each of the node before it and of the next one of the nodes below
abbrev pub tells_from : ℕ → ℕ → List (List ℕ)
tells_from zero set = []
tells_from (suc n) set = node 1 set 0 ∷ tells_from n (suc set)

abbrev pub eithers_from : ℕ → ℕ → ℕ → List (List ℕ)
eithers_from zero before next = []
eithers_from (suc n) before next = node 4 before next ∷ eithers_from n (suc before) (suc next)

-- n facts, stop, and two starts without threads
abbrev pub bytes_of_facts : ℕ → List ℕ
bytes_of_facts n = section (times n (name_bytes_of 48)) ++ (section [] ++ (section (node 0 0 0 ∷ []) ++ section (start 0 [] ∷ start 0 [] ∷ [])))

-- no facts, tell 0, and two starts with n threads
abbrev pub bytes_of_threads : ℕ → List ℕ
bytes_of_threads n =
    let threads = concat_map (λ r. r) (times n (0 ∷ [])) in
    section [] ++ (section [] ++ (section (node 1 0 0 ∷ []) ++ section (start 0 threads ∷ start 0 threads ∷ [])))

-- no facts: tell 0, an ask that becomes two of it, and two starts with n tells and the ask, so that n + 2 threads are reached
abbrev pub bytes_of_two_more : ℕ → List ℕ
bytes_of_two_more n =
    let threads = concat_map (λ r. r) (times n (0 ∷ [])) ++ (1 ∷ []) in
    section [] ++ (section [] ++ (section (node 1 0 0 ∷ node 2 0 2 ∷ node 3 0 0 ∷ []) ++ section (start 0 threads ∷ start 0 threads ∷ [])))

-- Seven facts: tells of the sets 1 to 31 and of one more, an either over all of them, node 62, and two starts with it, at stores 0 and 64. A
-- set that is among the others brings nothing new: then there are 64 members; 64, told at either start, gives one member more.
abbrev pub bytes_of_tells : ℕ → List ℕ
bytes_of_tells set =
    section (times 7 (name_bytes_of 48))
    ++ (section []
    ++ (section ((tells_from 31 1 ++ (node 1 set 0 ∷ [])) ++ (node 4 0 1 ∷ eithers_from 30 32 2)) ++ section (start 0 (62 ∷ []) ∷ start 64 (62 ∷ []) ∷ [])))

-- ---- reading K and L
pub k_reads : read_sheet bytes_of_k ≡ got sheet_k (length bytes_of_k)
unfolding read_sheet records_from count_at set_at name_bytes name_at names_from facts_at rule_at rules_at kind_at first_at second_at node_at nodes_at thread_at threads_from start_at starts_at open_within closure passes pass conclusions
k_reads = refl

pub l_reads : read_sheet bytes_of_l ≡ got sheet_l (length bytes_of_l)
unfolding read_sheet records_from count_at set_at name_bytes name_at names_from facts_at rule_at rules_at kind_at first_at second_at node_at nodes_at thread_at threads_from start_at starts_at open_within closure passes pass conclusions
l_reads = refl

-- ---- a sheet whose trail has a choice of replies: node 7 may become two tells, one tell or nothing, node 6 one tell or
-- nothing. Its starts, 0 and 1: [7] and [6].
abbrev pub bytes_of_replies : List ℕ
bytes_of_replies =
    section []
    ++ (section []
    ++ (section (node 0 0 0 ∷ node 1 0 0 ∷ node 3 1 1 ∷ node 2 0 0 ∷ node 2 0 1 ∷ node 2 0 2 ∷ node 4 3 4 ∷ node 4 6 5 ∷ [])
    ++ section (start 0 (7 ∷ []) ∷ start 0 (6 ∷ []) ∷ [])))

-- ---- a sheet whose replies tie: node 0 tells 1, node 3 tells 2 or 4. Its starts, 0 and 1: [0] and [3].
abbrev pub bytes_of_ties : List ℕ
bytes_of_ties =
    three_facts
    ++ (section [] ++ (section (node 1 1 0 ∷ node 1 2 0 ∷ node 1 4 0 ∷ node 4 1 2 ∷ []) ++ section (start 0 (0 ∷ []) ∷ start 0 (3 ∷ []) ∷ [])))

-- ---- nine facts; 256 gives 2, so that an ask of 256 has label 258. (4 to 128 give all, so that constraints are few.) Node 2
-- asks and tells, node 4 asks and may tell. Its starts, 0 and 1: [2] and [4].
abbrev pub bytes_of_wide : List ℕ
bytes_of_wide =
    section (times 9 (name_bytes_of 48))
    ++ (section (rule 256 2 ∷ rule 4 511 ∷ rule 8 511 ∷ rule 16 511 ∷ rule 32 511 ∷ rule 64 511 ∷ rule 128 511 ∷ [])
    ++ (section (node 0 0 0 ∷ node 1 0 0 ∷ node 2 256 1 ∷ node 2 256 0 ∷ node 4 2 3 ∷ []) ++ section (start 0 (2 ∷ []) ∷ start 0 (4 ∷ []) ∷ [])))

-- ---- document 02, card 2: facts that always stand. Nothing gives fact 0, which gives fact 1, and nothing gives nothing: the least store is 3.
-- Nodes: 1 tells nothing, 2 asks 4 and then tells, 3 asks 2, which stands, and then tells, 4 does either. All starts have store 0 on the
-- sheet, and so store 3; they are, 0 to 3: [1], [3], [2], [4].
abbrev pub bytes_of_standing : List ℕ
bytes_of_standing =
    three_facts
    ++ (section (rule 1 2 ∷ rule 0 1 ∷ rule 0 0 ∷ [])
    ++ (section (node 0 0 0 ∷ node 1 0 0 ∷ node 2 4 1 ∷ node 2 2 1 ∷ node 4 2 3 ∷ [])
    ++ section (start 0 (1 ∷ []) ∷ start 0 (3 ∷ []) ∷ start 0 (2 ∷ []) ∷ start 0 (4 ∷ []) ∷ [])))

abbrev pub sheet_standing : Sheet
sheet_standing =
    record {
      facts = 3;
      rules = record { premise = 1; conclusion = 2 } ∷ record { premise = 0; conclusion = 1 } ∷ record { premise = 0; conclusion = 0 } ∷ [];
      nodes = stop ∷ tell 3 ∷ ask 7 1 ∷ ask 3 1 ∷ either 2 3 ∷ [];
      starts =
          record { store = 3; threads = 1 ∷ [] } ∷ record { store = 3; threads = 3 ∷ [] } ∷ record { store = 3; threads = 2 ∷ [] }
          ∷ record { store = 3; threads = 4 ∷ [] } ∷ [];
    }

-- every set is closed on reading, the empty store of a start too
pub standing_reads : read_sheet bytes_of_standing ≡ got sheet_standing (length bytes_of_standing)
unfolding read_sheet records_from count_at set_at name_bytes name_at names_from facts_at rule_at rules_at kind_at first_at second_at node_at nodes_at thread_at threads_from start_at starts_at open_within closure passes pass conclusions
standing_reads = refl

-- no facts, and nothing gives nothing; tell 0, and two starts, with it and with no thread
abbrev pub bytes_of_nothing : List ℕ
bytes_of_nothing = section [] ++ (section (rule 0 0 ∷ []) ++ (section (node 1 0 0 ∷ []) ++ section (start 0 (0 ∷ []) ∷ start 0 [] ∷ [])))

-- three facts, and nothing gives a fourth
abbrev pub bytes_of_absent : List ℕ
bytes_of_absent = three_facts ++ (section (rule 0 8 ∷ []) ++ (section (node 0 0 0 ∷ []) ++ section (start 0 [] ∷ start 0 [] ∷ [])))

-- ---- the paper's running example. Facts 0 to 4: z < 7, z < 5, x < 7, x < 5, y = 1; z < 5 gives z < 7, and x < 5 gives x < 7.
-- Nodes 0 to 11: T, P, Q, P + Q, R, S, R + S, T', Q', P + Q', R', R' + S. Its starts, 0 to 2: S, R + S, R' + S.
abbrev pub bytes_of_paper : List ℕ
bytes_of_paper =
    section (name_bytes_of 48 ∷ name_bytes_of 49 ∷ name_bytes_of 50 ∷ name_bytes_of 51 ∷ name_bytes_of 52 ∷ [])
    ++ (section (rule 2 1 ∷ rule 8 4 ∷ [])
    ++ (section (
    node 1 0 0 ∷ node 2 4 0 ∷ node 2 8 0 ∷ node 4 1 2 ∷ node 2 2 3 ∷ node 2 1 1 ∷ node 4 4 5
    ∷ node 1 16 0 ∷ node 2 8 7 ∷ node 4 1 8 ∷ node 2 2 9 ∷ node 4 10 5 ∷ [])
    ++ section (start 0 (5 ∷ []) ∷ start 0 (6 ∷ []) ∷ start 0 (11 ∷ []) ∷ [])))
