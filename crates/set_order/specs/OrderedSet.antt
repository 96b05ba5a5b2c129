-- The explored set by discovery, and the same set in document 01's order.
use Rattle.std.specs.Prelude.{◌≡◌, ◌⊎◌, ◌↔◌, ℕ, ◌+◌, ◌*◌, ◌-◌, ◌/◌, ◌%◌, ◌≤◌, ◌<◌, length, get_or}
use mathlib.Core.List.{List, map, Memᴰ}
use Rattle.number_lists.specs.Lists.{Ascends}
use Rattle.number_lists.specs.Frames.{SameOutside}
use Rattle.member_table.specs.Orders.{Move}
use Rattle.number_lists.specs.AscendingLaws.{number_order}
use Rattle.number_lists.specs.NumberLists.{numbers_in}
use Rattle.member_table.specs.Packing.{Packed}
use Rattle.member_table.specs.MemberTable.{id_in, placed_in, Kept}
use Rattle.collected_moves.specs.CollectedMoves.{member_part, move_in_lem}
use Rattle.work_layout.specs.SetLayout.{member_at, first_move, move_total, move_numbers_at, moves_held_at}
use Rattle.work_layout.specs.WorkLayout.{work_end, spans_at, moves_at, members_at, move_room}

-- where the moves of a member that was explored begin, and how many there are; one more than both together is stored
abbrev pub span_first : List ℕ → ℕ → ℕ
span_first w id = (get_or w (spans_at + id) 0 - 1) / 65536

abbrev pub span_total : List ℕ → ℕ → ℕ
span_total w id = (get_or w (spans_at + id) 0 - 1) % 65536

-- the numbers of its moves, and the moves, with ids as targets
abbrev pub span_numbers : List ℕ → ℕ → List ℕ
span_numbers w id = numbers_in w (moves_at + span_first w id) (moves_at + span_first w id + span_total w id)

abbrev pub span_moves : List ℕ → ℕ → List Move
span_moves w id = map (move_in_lem w) (span_numbers w id)

-- a member that was explored: its moves stand in their place, in ascending order of numbers, each with the id of a member
pub record SpanFits (w : List ℕ) (n m id : ℕ) : Type 0 where
  pub explored : 0 < get_or w (spans_at + id) 0
  pub within : span_first w id + span_total w id ≤ m
  pub ascending : Ascends number_order.before (span_numbers w id)
  pub ids : (y : ℕ) → Memᴰ y (span_numbers w id) → y % 65536 < n

-- n members by discovery, all explored, with m moves together
pub record Discovered (w : List ℕ) (n m : ℕ) : Type 0 where
  pub long : work_end ≤ length w
  pub few : m ≤ move_room
  pub kept : Kept (member_part w) n
  pub spans : (id : ℕ) → id < n → SpanFits w n m id
  pub apart : (i j : ℕ) → i < n → j < n → (i ≡ j → ⊥)
      → (span_first w i + span_total w i ≤ span_first w j) ⊎ (span_first w j + span_total w j ≤ span_first w i)

-- the same members in their order, each with the same moves, in ascending order of label and place
pub record Arranged (v : List ℕ) (n m : ℕ) (w : List ℕ) : Type 0 where
  pub members : (j : ℕ) → j < n → member_at w j ≡ placed_in (member_part v) j
  pub packed : (j : ℕ) → j < n → Packed (get_or w (members_at + 3 * j) 0) (get_or w (members_at + 3 * j + 1) 0) (get_or w (members_at + 3 * j + 2) 0)
  pub spans : (j : ℕ) → j < n → first_move w j + move_total w j ≤ m
  pub apart : (i j : ℕ) → i < n → j < n → (i ≡ j → ⊥)
      → (first_move w i + move_total w i ≤ first_move w j) ⊎ (first_move w j + move_total w j ≤ first_move w i)
  pub targets : (j y : ℕ) → j < n → Memᴰ y (move_numbers_at w j) → y % 65536 < n
  pub ascending : (j : ℕ) → j < n → Ascends number_order.before (move_numbers_at w j)
  pub moves_same : (j : ℕ) → j < n → (k : Move) → Memᴰ k (moves_held_at w j) ↔ Memᴰ k (span_moves v (id_in (member_part v) j))
  pub outside : SameOutside spans_at work_end v w
