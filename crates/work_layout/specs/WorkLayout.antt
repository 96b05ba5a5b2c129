-- Where everything stands in the work slice, phase by phase. src/lib.rt has the same numbers for the code.
use Rattle.std.specs.Prelude.{ℕ, ◌^◌}
use Rattle.comparison.specs.SheetLimits.{max_facts}
use Rattle.comparison.specs.CallLimits.{work_length}

-- numbers in the work slice that are used
abbrev pub work_end : ℕ
work_end = work_length

-- members, and moves of all members together, that there is room for
abbrev pub member_room : ℕ
member_room = 512

abbrev pub move_room : ℕ
move_room = 4096

-- sets of facts whose closures there is room for
abbrev pub set_room : ℕ
set_room = 2 ^ max_facts

-- ---- a table of members: three numbers for each by discovery, then ids in ascending order of what they stand for
-- where the ids begin in it
abbrev pub table_ids : ℕ
table_ids = 1536

-- how long it is
abbrev pub table_length : ℕ
table_length = 2048

-- ---- while the set is worked out
-- the closure of every set of the sheet's facts
abbrev pub closures_at : ℕ
closures_at = 0

-- for each member, by its id: where its moves stand, once it is explored
abbrev pub spans_at : ℕ
spans_at = 4096

-- the moves of explored members, and behind them those of the member in hand
abbrev pub moves_at : ℕ
moves_at = 4608

-- the members: a table
abbrev pub members_at : ℕ
members_at = 8704

-- nodes with threads beside them that were visited: a table
abbrev pub marks_at : ℕ
marks_at = 10752

-- nodes with threads beside them that are still to be visited, three numbers each, and the first place after them
abbrev pub pending_at : ℕ
pending_at = 12800

abbrev pub pending_end : ℕ
pending_end = 12992

-- the shelf of labels: its entries, three numbers each (the asked set, where its labels begin, where they end); the labels;
-- and the first place after them
abbrev pub heads_at : ℕ
heads_at = 12992

abbrev pub lists_at : ℕ
lists_at = 13184

abbrev pub lists_end : ℕ
lists_end = 16384

-- ---- while the set is put into its order
-- for each member, by its id: its place in the order
abbrev pub places_at : ℕ
places_at = 10752

-- members and spans by their places, before they are copied to where they stood by ids
abbrev pub spare_members_at : ℕ
spare_members_at = 12800

abbrev pub spare_spans_at : ℕ
spare_spans_at = 14336

-- ---- the whole set: spans and moves where they were, by places, and three numbers for each member, in order
-- ---- while classes are split
-- for each move: the place of its kept dominating move
abbrev pub dominators_at : ℕ
dominators_at = 0

-- how many lines the member at each place has
abbrev pub line_totals_at : ℕ
line_totals_at = 10240

-- the class of the member at each place
abbrev pub classes_at : ℕ
classes_at = 10752

-- for each class: the class it came from and the round of its birth, in one number
abbrev pub births_at : ℕ
births_at = 11264

-- for each class: the place of its chosen member
abbrev pub chosen_at : ℕ
chosen_at = 11776

-- the lines of all members: those of the member at place i begin as far from here as its moves do from `moves_at`
abbrev pub lines_at : ℕ
lines_at = 12288

-- ---- after the rounds
-- the steps of the trail, three numbers each: side, label with the mover's target, reply's target. They stand where dominating
-- moves were kept, so the lines of the result's round stay.
abbrev pub steps_at : ℕ
steps_at = 0

-- the first place after all steps that there can be
abbrev pub steps_end : ℕ
steps_end = 2048
