-- Members and moves in the work slice while the moves of one member are collected.
use Rattle.std.specs.Prelude.{◌≡◌, ◌⊎◌, ℕ, ◌+◌, ◌/◌, ◌%◌, ◌≤◌, ◌<◌, length}
use mathlib.Core.List.{List, map, Memᴰ}
use Rattle.member_table.specs.Lists.{Ascends}
use Rattle.member_table.specs.Frames.{SameOutside}
use Rattle.member_table.specs.Sheet.{Configuration}
use Rattle.member_table.specs.Orders.{Move}
use Rattle.member_table.specs.AscendingLaws.{number_order}
use Rattle.member_table.specs.NumberLists.{numbers_in}
use Rattle.member_table.specs.MemberTable.{member_in, members_in, id_in, part_at, Kept}
use Rattle.collected_moves.specs.declared.Caps.{Caps}
use Rattle.collected_moves.specs.declared.Running.{Running}
use Rattle.std.specs.Prelude.{Option, Some, None}
use Rattle.member_table.specs.WorkLayout.{work_end, table_length, moves_at, members_at, member_room, move_room}
use Rattle.member_table.specs.SheetLimits.{max_threads}

-- the part of the slice that holds the members
abbrev pub member_part : List ℕ → List ℕ
member_part w = part_at w members_at

-- the members there are, by discovery
abbrev pub members_of : List ℕ → Running → List Configuration
members_of w s = members_in (member_part w) s.members

-- the move that a number stands for: its label, and as its target the member whose id stands beside it
abbrev pub move_in_lem : List ℕ → ℕ → Move
move_in_lem w y = record { label = y / 65536; target = member_in (member_part w) (y % 65536) }

-- the numbers of the moves at the places from `first` up to `end`
abbrev pub move_numbers : List ℕ → ℕ → ℕ → List ℕ
move_numbers w first end = numbers_in w (moves_at + first) (moves_at + end)

-- the moves that were collected, from place `first` on
abbrev pub moves_of : List ℕ → ℕ → Running → List Move
moves_of w first s = map (move_in_lem w) (move_numbers w first s.moves)

-- Members and moves are kept within the caps: members in their order, the moves from `first` on in ascending order of their
-- numbers, each with the id of a member.
pub record Collecting (w : List ℕ) (first : ℕ) (s : Running) (l : Caps) : Type 0 where
  pub long : work_end ≤ length w
  pub caps : (l.members ≤ member_room) × (l.moves ≤ move_room) × (l.threads ≤ max_threads)
  pub kept : Kept (member_part w) s.members
  pub room : (s.members ≤ l.members) × (first ≤ s.moves) × (s.moves ≤ l.moves)
  pub ascending : Ascends number_order.before (move_numbers w first s.moves)
  pub ids : (y : ℕ) → Memᴰ y (move_numbers w first s.moves) → y % 65536 < s.members

-- What was there stays: members keep their ids, moves are kept, places below the lowest that changed have their members, and
-- nothing is changed before the moves in hand or after the part of the slice that is used.
pub record Grown (v : List ℕ) (first : ℕ) (s : Running) (w : List ℕ) (t : Running) : Type 0 where
  pub members_same : members_in (member_part w) s.members ≡ members_of v s
  pub members_grow : s.members ≤ t.members
  pub moves_keep : (k : Move) → Memᴰ k (moves_of v first s) → Memᴰ k (moves_of w first t)
  pub low : (j : ℕ) → j < t.low → (j < s.low) × (id_in (member_part w) j ≡ id_in (member_part v) j)
  pub outside : SameOutside (moves_at + first) work_end v w

-- a move was noted: it is collected, its target is a member, and no other move or member came in
pub record NotedOn (v : List ℕ) (first : ℕ) (s : Running) (l : Caps) (m : Move) (w : List ℕ) (t : Running) : Type 0 where
  pub collecting : Collecting w first t l
  pub grown : Grown v first s w t
  pub members_only : (x : Configuration) → Memᴰ x (members_of w t) → (x ≡ m.target) ⊎ Memᴰ x (members_of v s)
  pub moves_only : (k : Move) → Memᴰ k (moves_of w first t) → (k ≡ m) ⊎ Memᴰ k (moves_of v first s)
  pub target_in_lem : Memᴰ m.target (members_of w t)
  pub move_in : Memᴰ m (moves_of w first t)
  -- only members and moves are written
  pub inside : SameOutside (moves_at + first) (members_at + table_length) v w

-- there is no room: as many members as allowed and the target is none of them, or as many moves and this is none of them
pub record NoRoom (v : List ℕ) (first : ℕ) (s : Running) (l : Caps) (m : Move) (w : List ℕ) : Type 0 where
  pub full : ((s.members ≡ l.members) × (Memᴰ m.target (members_of v s) → ⊥))
      ⊎ ((s.moves ≡ l.moves) × (Memᴰ m (moves_of v first s) → ⊥))
  pub inside : SameOutside (moves_at + first) (members_at + table_length) v w

-- what noting a move gives
abbrev pub NotedAs : List ℕ → ℕ → Running → Caps → Move → List ℕ → Option Running → Type 0
NotedAs v first s l m w (Some t) = NotedOn v first s l m w t
NotedAs v first s l m w None = NoRoom v first s l m w

-- a member was entered: no other member and no move came in
pub record EnteredOn (v : List ℕ) (first : ℕ) (s : Running) (l : Caps) (p : Configuration) (w : List ℕ) (t : Running) : Type 0 where
  pub collecting : Collecting w first t l
  pub grown : Grown v first s w t
  pub same_moves : (t.moves ≡ s.moves) × (move_numbers w first t.moves ≡ move_numbers v first s.moves)
  pub members_only : (x : Configuration) → Memᴰ x (members_of w t) → (x ≡ p) ⊎ Memᴰ x (members_of v s)
  pub entered : Memᴰ p (members_of w t)
  pub inside : SameOutside members_at (members_at + table_length) v w

-- there are as many members as allowed, and this is none of them
pub record NoRoomFor (v : List ℕ) (s : Running) (l : Caps) (p : Configuration) (w : List ℕ) : Type 0 where
  pub full : s.members ≡ l.members
  pub missing : Memᴰ p (members_of v s) → ⊥
  pub inside : SameOutside members_at (members_at + table_length) v w

-- what entering a member gives
abbrev pub EnteredAs : List ℕ → ℕ → Running → Caps → Configuration → List ℕ → Option Running → Type 0
EnteredAs v first s l p w (Some t) = EnteredOn v first s l p w t
EnteredAs v first s l p w None = NoRoomFor v s l p w
