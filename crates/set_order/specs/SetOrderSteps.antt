-- What the steps of putting the set into order ask and promise.
use Rattle.std.specs.Prelude.{◌≡◌, ◌⊎◌, ℕ, ◌+◌, ◌*◌, ◌-◌, ◌/◌, ◌%◌, ◌≤◌, ◌<◌, length, get_or}
use mathlib.Core.List.{List, map, Memᴰ}
use Rattle.number_lists.specs.Lists.{Ascends, arrange}
use Rattle.number_lists.specs.Frames.{SameOutside}
use Rattle.number_lists.specs.AscendingLaws.{number_order}
use Rattle.number_lists.specs.NumberLists.{numbers_in}
use Rattle.member_table.specs.MemberTable.{id_in, Kept}
use Rattle.collected_moves.specs.CollectedMoves.{member_part}
use Rattle.set_order.specs.OrderedSet.{span_first, span_total, span_numbers, Discovered, Arranged}
use Rattle.work_layout.specs.WorkLayout.{work_end, spans_at, moves_at, members_at, places_at, spare_members_at, spare_spans_at, member_room, move_room}

-- ---- the places of ids
-- the place of each of the first i members of the order stands by its id; nothing else is changed
pub record IdsPlaced (v : List ℕ) (i : ℕ) (w : List ℕ) : Type 0 where
  pub at : (j : ℕ) → j < i → get_or w (places_at + id_in (member_part v) j) 0 ≡ j
  pub outside : SameOutside places_at (places_at + member_room) v w

-- ---- the moves of a member
-- the number of a move with its target's place for its id
abbrev pub placed_number : List ℕ → ℕ → ℕ
placed_number w y = y / 65536 * 65536 + get_or w (places_at + y % 65536) 0

-- the number has an id that has a place
pub record TargetFits (w : List ℕ) (y : ℕ) : Type 0 where
  pub id : y % 65536 < member_room
  pub place : get_or w (places_at + y % 65536) 0 < 65536

-- the numbers before place i of a part have places for ids
pub record TargetsPlaced (v : List ℕ) (from i : ℕ) (w : List ℕ) : Type 0 where
  pub at : (k : ℕ) → from ≤ k → k < i → get_or w k 0 ≡ placed_number v (get_or v k 0)
  pub outside : SameOutside from i v w

-- ascending numbers of moves whose ids have places, different numbers different ones
pub record NumbersReady (w : List ℕ) (ys : List ℕ) : Type 0 where
  pub ascending : Ascends number_order.before ys
  pub fit : (y : ℕ) → Memᴰ y ys → TargetFits w y
  pub apart : (y z : ℕ) → Memᴰ y ys → Memᴰ z ys → placed_number w y ≡ placed_number w z → y ≡ z

-- a member's span, and its moves
pub record MovesReady (w : List ℕ) (id : ℕ) : Type 0 where
  pub explored : 0 < get_or w (spans_at + id) 0
  pub within : span_first w id + span_total w id ≤ move_room
  pub numbers : NumbersReady w (span_numbers w id)

-- the part of a member's moves, by the spans of v
abbrev pub part_by : List ℕ → List ℕ → ℕ → List ℕ
part_by v w id = numbers_in w (moves_at + span_first v id) (moves_at + span_first v id + span_total v id)

-- its numbers with places for ids, in ascending order
abbrev pub placed_numbers : List ℕ → ℕ → List ℕ
placed_numbers v id = arrange number_order.before (map (placed_number v) (span_numbers v id))

-- the moves of a member are arranged; nothing else is changed
pub record MovesArranged (v : List ℕ) (id : ℕ) (w : List ℕ) : Type 0 where
  pub numbers : part_by v w id ≡ placed_numbers v id
  pub outside : SameOutside (moves_at + span_first v id) (moves_at + span_first v id + span_total v id) v w

-- two members' moves stand apart
abbrev pub SpansApart : List ℕ → ℕ → ℕ → Type 0
SpansApart w i j = (span_first w i + span_total w i ≤ span_first w j) ⊎ (span_first w j + span_total w j ≤ span_first w i)

-- n members whose moves can be arranged one after another
pub record AllReady (w : List ℕ) (n : ℕ) : Type 0 where
  pub long : work_end ≤ length w
  pub room : n ≤ member_room
  pub ready : (id : ℕ) → id < n → MovesReady w id
  pub apart : (i j : ℕ) → i < n → j < n → (i ≡ j → ⊥) → SpansApart w i j

-- the moves of the members with ids below i are arranged, those of the others up to n untouched; nothing else is changed
pub record AllArranged (v : List ℕ) (n i : ℕ) (w : List ℕ) : Type 0 where
  pub arranged : (id : ℕ) → id < i → part_by v w id ≡ placed_numbers v id
  pub left : (id : ℕ) → i ≤ id → id < n → part_by v w id ≡ span_numbers v id
  pub outside : SameOutside moves_at members_at v w

-- ---- copies
-- the member at place j and its span stand aside; nothing else is changed
pub record CopiedAside (v : List ℕ) (j : ℕ) (w : List ℕ) : Type 0 where
  pub first : get_or w (spare_members_at + 3 * j) 0 ≡ get_or v (members_at + 3 * id_in (member_part v) j) 0
  pub second : get_or w (spare_members_at + 3 * j + 1) 0 ≡ get_or v (members_at + 3 * id_in (member_part v) j + 1) 0
  pub third : get_or w (spare_members_at + 3 * j + 2) 0 ≡ get_or v (members_at + 3 * id_in (member_part v) j + 2) 0
  pub span : get_or w (spare_spans_at + j) 0 ≡ get_or v (spans_at + id_in (member_part v) j) 0 - 1
  pub others : (i : ℕ) → (i < spare_members_at + 3 * j) ⊎ (spare_members_at + 3 * j + 3 ≤ i) → (i ≡ spare_spans_at + j → ⊥) → get_or w i 0 ≡ get_or v i 0
  pub long : length w ≡ length v

-- the members at the first i places and their spans stand aside
pub record AllAside (v : List ℕ) (i : ℕ) (w : List ℕ) : Type 0 where
  pub first : (j : ℕ) → j < i → get_or w (spare_members_at + 3 * j) 0 ≡ get_or v (members_at + 3 * id_in (member_part v) j) 0
  pub second : (j : ℕ) → j < i → get_or w (spare_members_at + 3 * j + 1) 0 ≡ get_or v (members_at + 3 * id_in (member_part v) j + 1) 0
  pub third : (j : ℕ) → j < i → get_or w (spare_members_at + 3 * j + 2) 0 ≡ get_or v (members_at + 3 * id_in (member_part v) j + 2) 0
  pub span : (j : ℕ) → j < i → get_or w (spare_spans_at + j) 0 ≡ get_or v (spans_at + id_in (member_part v) j) 0 - 1
  pub outside : SameOutside spare_members_at work_end v w

-- members that were all explored
pub record SpansKept (w : List ℕ) (n : ℕ) : Type 0 where
  pub long : work_end ≤ length w
  pub kept : Kept (member_part w) n
  pub explored : (id : ℕ) → id < n → 0 < get_or w (spans_at + id) 0

-- k numbers stand at another place too
pub record Copied (v : List ℕ) (from to k : ℕ) (w : List ℕ) : Type 0 where
  pub at : (i : ℕ) → i < k → get_or w (to + i) 0 ≡ get_or v (from + i) 0
  pub outside : SameOutside to (to + k) v w

-- ---- the whole
-- n members by discovery, with so many moves together as there are
pub record DiscoveredSome (w : List ℕ) (n : ℕ) : Type 0 where
  pub total : ℕ
  pub discovered : Discovered w n total

-- the set in order
pub record ArrangedAll (v : List ℕ) (n : ℕ) (w : List ℕ) : Type 0 where
  pub arranged : (m : ℕ) → Discovered v n m → Arranged v n m w
