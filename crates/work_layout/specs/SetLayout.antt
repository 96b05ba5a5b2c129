-- How the whole set of a comparison stands in the work slice: the members in document 01's order, three numbers each, and
-- each member's moves in their order, with their targets as places in the set.
use Rattle.std.specs.Prelude.{◌≡◌, ◌⊎◌, ℕ, ◌+◌, ◌*◌, ◌/◌, ◌%◌, ◌≤◌, ◌<◌, length, get_or}
use mathlib.Core.List.{List, map, Memᴰ}
use Rattle.packing.specs.Tabulate.{tabulate}
use Rattle.number_lists.specs.NumberLists.{numbers_in}
use Rattle.comparison.specs.Sheet.{Configuration, Sheet}
use Rattle.packing.specs.Orders.{Move}
use Rattle.packing.specs.Moves.{moves}
use Rattle.packing.specs.declared.Numbers.{Numbers}
use Rattle.packing.specs.Packing.{unpacked, Packed}
use Rattle.work_layout.specs.WorkLayout.{spans_at, moves_at, members_at, work_end, member_room, move_room}

-- the three numbers of the member at place i
abbrev pub numbers_at : List ℕ → ℕ → Numbers
numbers_at w i = record {
  a = get_or w (members_at + 3 * i) 0;
  b = get_or w (members_at + 3 * i + 1) 0;
  c = get_or w (members_at + 3 * i + 2) 0;
}

-- the member at place i
abbrev pub member_at : List ℕ → ℕ → Configuration
member_at w i = unpacked (get_or w (members_at + 3 * i) 0) (get_or w (members_at + 3 * i + 1) 0) (get_or w (members_at + 3 * i + 2) 0)

-- the set of n members
abbrev pub set_in : List ℕ → ℕ → List Configuration
set_in w n = tabulate (member_at w) n

-- where the moves of the member at place i begin, counted from the first move, and how many there are
abbrev pub first_move : List ℕ → ℕ → ℕ
first_move w i = get_or w (spans_at + i) 0 / 65536

abbrev pub move_total : List ℕ → ℕ → ℕ
move_total w i = get_or w (spans_at + i) 0 % 65536

-- the numbers of its moves
abbrev pub move_numbers_at : List ℕ → ℕ → List ℕ
move_numbers_at w i = numbers_in w (moves_at + first_move w i) (moves_at + first_move w i + move_total w i)

-- the move that a number stands for: its label, and the place of its target in the set
abbrev pub move_from : List ℕ → ℕ → Move
move_from w y = record { label = y / 65536; target = member_at w (y % 65536) }

-- the moves of the member at place i
abbrev pub moves_held_at : List ℕ → ℕ → List Move
moves_held_at w i = map (move_from w) (move_numbers_at w i)

-- A set stands in the slice: its n members whole and in order, m moves together, those of each member whole and in order.
pub record SetHeld (sheet : Sheet) (set : List Configuration) (w : List ℕ) (n m : ℕ) : Type 0 where
  pub long : work_end ≤ length w
  pub few : (n ≤ member_room) × (m ≤ move_room)
  pub members : set_in w n ≡ set
  pub packed : (i : ℕ) → i < n → Packed (get_or w (members_at + 3 * i) 0) (get_or w (members_at + 3 * i + 1) 0) (get_or w (members_at + 3 * i + 2) 0)
  pub spans : (i : ℕ) → i < n → first_move w i + move_total w i ≤ m
  pub apart : (i j : ℕ) → i < n → j < n → (i ≡ j → ⊥)
      → (first_move w i + move_total w i ≤ first_move w j) ⊎ (first_move w j + move_total w j ≤ first_move w i)
  pub targets : (i y : ℕ) → i < n → Memᴰ y (move_numbers_at w i) → y % 65536 < n
  pub moves_are : (i : ℕ) → i < n → moves_held_at w i ≡ moves sheet (member_at w i)
