-- Document 01, "Refused by the sheet or the choice" and "Refused by the state": the numbers of refusals, each named once.
use Rattle.std.specs.Prelude.{ℕ}

-- ---- by the sheet
-- a field is cut off by the end
abbrev pub cut_off_lem : ℕ
cut_off_lem = 1

abbrev pub many_facts : ℕ
many_facts = 2

-- a name byte outside 32 to 126
abbrev pub unprintable : ℕ
unprintable = 3

abbrev pub many_rules : ℕ
many_rules = 4

-- a set holds an absent fact
abbrev pub absent_fact : ℕ
absent_fact = 5

-- 6, document 01's number for an empty premise, is no longer given (document 02, card 2).

-- no nodes, or too many
abbrev pub wrong_nodes : ℕ
wrong_nodes = 7

abbrev pub wrong_kind : ℕ
wrong_kind = 8

-- a node number is not allowed there
abbrev pub wrong_node : ℕ
wrong_node = 9

-- an unused field is not 0
abbrev pub used_field : ℕ
used_field = 10

-- too few starts, or too many
abbrev pub wrong_starts : ℕ
wrong_starts = 11

-- a start has too many threads, as written or once opened
abbrev pub many_threads : ℕ
many_threads = 12

-- bytes after the last start
abbrev pub bytes_left_lem : ℕ
bytes_left_lem = 13

-- a node opens to too many threads
abbrev pub wide_node : ℕ
wide_node = 15

-- ---- by the choice
-- a chosen start is not on the sheet
abbrev pub absent_start : ℕ
absent_start = 14

-- ---- by the state
-- the set passes a limit
abbrev pub large_set : ℕ
large_set = 21

-- the answer slice is shorter than the report
abbrev pub short_answer : ℕ
short_answer = 22

-- the work slice is too short
abbrev pub short_work : ℕ
short_work = 23
