-- The third rule of the set, for the member in hand: where it has moves with labels a and b, a strictly below b, the target of
-- the first with b added is a member.
use Rattle.std.specs.Prelude.{◌≡◌, Bool, true, not, ◌||◌, ℕ, ◌+◌, ◌-◌, ◌/◌, ◌^◌, ◌≤◌, ◌<◌, get_or, eqb}
use mathlib.Core.List.{List, Memᴰ}
use Rattle.work_layout.specs.Frames.{SameOutside}
use Rattle.work_layout.specs.Stores.{strictly_below}
use Rattle.sheet_types.specs.Sheet.{Configuration}
use Rattle.member_table.specs.Orders.{Move}
use Rattle.member_table.specs.Moves.{add}
use Rattle.work_layout.specs.Promise.{PassesLimit}
use Rattle.sheet_types.specs.ClosureTable.{Closures}
use Rattle.walk_state.specs.AskLabels.{TableOf}
use Rattle.collected_moves.specs.declared.Running.{Running}
use Rattle.std.specs.Prelude.{Option, Some, None}
use Rattle.collected_moves.specs.CollectedMoves.{Collecting, Grown, members_of, moves_of, move_in_lem, move_numbers}
use Rattle.walk_state.specs.SetGrowth.{Growth, Sound, InHand, Gathered}
use Rattle.walk_state.specs.declared.Basis.{Basis}
use Rattle.walk_state.specs.WalkState.{MemberFits}
use Rattle.work_layout.specs.WorkLayout.{table_length, moves_at, members_at}
use Rattle.sheet_types.specs.SheetLimits.{max_facts}

-- ---- what is asked of the slice
-- Members and moves are in order, and speak of the sheet's facts; the slice begins with the table of closures.
pub record Standing (w : List ℕ) (b : Basis) (s : Running) : Type 0 where
  pub collecting : Collecting w b.first s b.caps
  pub fit : (x : Configuration) → Memᴰ x (members_of w s) → MemberFits b x
  pub small : (m : Move) → Memᴰ m (moves_of w b.first s) → m.label < 2 ^ b.facts
  pub few_facts : b.facts ≤ max_facts
  pub table : TableOf b.facts w

-- the sheet of a growth is one whose table of closures the slice has
pub record OnTable (g : Growth) (b : Basis) (w : List ℕ) : Type 0 where
  pub sound : Sound g b.caps
  pub facts_are : g.sheet.facts ≡ b.facts
  pub closures : Closures g.sheet.rules 0 (2 ^ b.facts) w

-- ---- the moves by their places
-- the number at a place of the moves
abbrev pub number_at : List ℕ → ℕ → ℕ
number_at w i = get_or w (moves_at + i) 0

abbrev pub label_at : List ℕ → ℕ → ℕ
label_at w i = number_at w i / 65536

abbrev pub move_at : List ℕ → ℕ → Move
move_at w i = move_in_lem w (number_at w i)

-- whether the move at place j has another label than the one before it
abbrev pub is_first : List ℕ → ℕ → ℕ → Bool
is_first w first j = eqb j first || not (eqb (label_at w (j - 1)) (label_at w j))

-- a move in hand has the label, and no move before place j does
pub record NewLabel (w : List ℕ) (b : Basis) (s : Running) (j label : ℕ) : Type 0 where
  pub place : ℕ
  pub in_hand_lem : (b.first ≤ place) × (place < s.moves)
  pub label_is : label_at w place ≡ label
  pub before : (i : ℕ) → b.first ≤ i → i < j → label_at w i ≡ label → ⊥

-- ---- what is done
-- From (v, s) to (w, t) only members came in: what was there stays in order, the moves are the same, and for a set whose table
-- this is, all that came in belongs to it.
pub record OnlyMembers (b : Basis) (v : List ℕ) (s : Running) (w : List ℕ) (t : Running) : Type 0 where
  pub standing : Standing w b t
  pub grown : Grown v b.first s w t
  pub same_moves : (t.moves ≡ s.moves) × (move_numbers w b.first t.moves ≡ move_numbers v b.first s.moves)
  pub inside : SameOutside members_at (members_at + table_length) v w
  pub gathered : (g : Growth) (h : InHand g) → OnTable g b v → Gathered g h v b.first s → Gathered g h w b.first t

-- And for each move and label that P has, the label above the move's own, the move's target with the label added is a member.
pub record AddedOn (P : Move → ℕ → Type 0) (b : Basis) (v : List ℕ) (s : Running) (w : List ℕ) (t : Running) : Type 0 where
  pub kept : OnlyMembers b v s w t
  pub added : (g : Growth) (h : InHand g) → OnTable g b v → Gathered g h v b.first s → (k : Move) (label : ℕ) → P k label
      → strictly_below k.label label ≡ true → Memᴰ (add g.sheet label k.target) (members_of w t)

-- a cap is passed: then the set passes a limit
pub record AddedOver (b : Basis) (v : List ℕ) (s : Running) (w : List ℕ) : Type 0 where
  pub passes : (g : Growth) (h : InHand g) → OnTable g b v → Gathered g h v b.first s → PassesLimit g.sheet g.limits g.seeds
  pub inside : SameOutside members_at (members_at + table_length) v w

-- by the answer
abbrev pub Added : (Move → ℕ → Type 0) → Basis → List ℕ → Running → List ℕ → Option Running → Type 0
Added P b v s w (Some t) = AddedOn P b v s w t
Added P b v s w None = AddedOver b v s w

-- ---- moves and labels
-- the move at place i, and this label
pub record AtPlace (v : List ℕ) (i label : ℕ) (k : Move) (l : ℕ) : Type 0 where
  pub move_is : k ≡ move_at v i
  pub label_is : l ≡ label

-- a move before place j, and this label
pub record BeforePlace (v : List ℕ) (first j label : ℕ) (k : Move) (l : ℕ) : Type 0 where
  pub place : ℕ
  pub within : (first ≤ place) × (place < j)
  pub at : AtPlace v place label k l

-- a move in hand, and the label of the one at place j, where it is the first with it
pub record ByFirst (v : List ℕ) (first : ℕ) (s : Running) (j : ℕ) (k : Move) (l : ℕ) : Type 0 where
  pub first_with_it : is_first v first j ≡ true
  pub in_hand_lem : Memᴰ k (moves_of v first s)
  pub label_is : l ≡ label_at v j

-- a move in hand, and the label of one before place j
pub record ByEarlier (v : List ℕ) (first : ℕ) (s : Running) (j : ℕ) (k : Move) (l : ℕ) : Type 0 where
  pub in_hand_lem : Memᴰ k (moves_of v first s)
  pub place : ℕ
  pub within : (first ≤ place) × (place < j)
  pub label_is : l ≡ label_at v place

-- ---- all additions
-- For any two moves in hand, the label of the first strictly below that of the second, the target of the first with the label
-- of the second added is a member.
pub record AllAddedOn (b : Basis) (v : List ℕ) (s : Running) (w : List ℕ) (t : Running) : Type 0 where
  pub kept : OnlyMembers b v s w t
  pub added : (g : Growth) (h : InHand g) → OnTable g b v → Gathered g h v b.first s
      → (k m : Move) → Memᴰ k (moves_of w b.first t) → Memᴰ m (moves_of w b.first t)
      → strictly_below k.label m.label ≡ true → Memᴰ (add g.sheet m.label k.target) (members_of w t)

abbrev pub AllAdded : Basis → List ℕ → Running → List ℕ → Option Running → Type 0
AllAdded b v s w (Some t) = AllAddedOn b v s w t
AllAdded b v s w None = AddedOver b v s w
