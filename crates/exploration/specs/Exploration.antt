-- The set while it is explored: members by discovery, those explored with their moves in their places.
use Rattle.std.specs.Prelude.{◌≡◌, ◌⊎◌, ◌↔◌, true, ℕ, ◌+◌, ◌≤◌, ◌<◌, length, get_or}
use mathlib.Core.List.{List, Memᴰ}
use Rattle.work_layout.specs.Lists.{Distinct}
use Rattle.work_layout.specs.Stores.{strictly_below}
use Rattle.sheet_types.specs.Sheet.{Configuration}
use Rattle.member_table.specs.Orders.{Move}
use Rattle.member_table.specs.Moves.{moves, add}
use Rattle.work_layout.specs.Promise.{MemberMove}
use Rattle.ask_labels.specs.AskLabels.{TableOf}
use Rattle.member_table.specs.MemberTable.{member_in, id_in}
use Rattle.collected_moves.specs.declared.Running.{Running}
use Rattle.collected_moves.specs.CollectedMoves.{Collecting, member_part, members_of}
use Rattle.walk_state.specs.SetGrowth.{Growth, InSet}
use Rattle.walk_state.specs.declared.Basis.{Basis}
use Rattle.walk_state.specs.WalkState.{MemberFits}
use Rattle.set_order.specs.OrderedSet.{span_first, span_total, span_moves, SpanFits}
use Rattle.unexplored_members.specs.UnexploredMembers.{IsExplored}
use Rattle.exploration.specs.declared.Plan.{Plan}
use Rattle.work_layout.specs.WorkLayout.{spans_at, member_room}
use Rattle.sheet_types.specs.SheetLimits.{max_facts}

-- what stays the same for a member with this store, whose moves begin here
abbrev pub basis_of : Plan → ℕ → ℕ → Basis
basis_of plan store first = record { facts = plan.facts; nodes = plan.nodes; store = store; first = first; caps = plan.caps }

-- Members and spans are in order, and no moves are in hand: every member below the lowest place is explored, and the moves of
-- explored members stand in places of their own.
pub record Exploring (w : List ℕ) (plan : Plan) (s : Running) : Type 0 where
  pub collecting : Collecting w s.moves s plan.caps
  pub fit : (x : Configuration) → Memᴰ x (members_of w s) → MemberFits (basis_of plan 0 0) x
  pub few_facts : plan.facts ≤ max_facts
  pub table : TableOf plan.facts w
  pub spans : (id : ℕ) → id < s.members → (get_or w (spans_at + id) 0 ≡ 0) ⊎ SpanFits w s.members s.moves id
  pub unused : (id : ℕ) → s.members ≤ id → id < member_room → get_or w (spans_at + id) 0 ≡ 0
  pub apart : (i j : ℕ) → i < s.members → j < s.members → IsExplored w i → IsExplored w j → (i ≡ j → ⊥)
      → (span_first w i + span_total w i ≤ span_first w j) ⊎ (span_first w j + span_total w j ≤ span_first w i)
  pub low : (j : ℕ) → j < s.low → (j < s.members) × IsExplored w (id_in (member_part w) j)

-- an explored member of a set: its moves whole, and what they bring by the third rule
pub record Done (g : Growth) (w : List ℕ) (s : Running) (id : ℕ) : Type 0 where
  pub moves_are : (k : Move) → Memᴰ k (span_moves w id) ↔ Memᴰ k (moves g.sheet (member_in (member_part w) id))
  pub additions : (k m : Move) → Memᴰ k (span_moves w id) → Memᴰ m (span_moves w id) → strictly_below k.label m.label ≡ true
      → Memᴰ (add g.sheet m.label k.target) (members_of w s)

-- the moves of all explored members, as many as are stored
pub record Counted (g : Growth) (w : List ℕ) (s : Running) : Type 0 where
  pub all : List MemberMove
  pub distinct : Distinct all
  pub count : length all ≡ s.moves
  pub only : (x : MemberMove) → Memᴰ x all
      → (id : ℕ) × (id < s.members) × IsExplored w id × (x.member ≡ member_in (member_part w) id) × Memᴰ x.move (moves g.sheet x.member)
  pub whole : (id : ℕ) (k : Move) → id < s.members → IsExplored w id → Memᴰ k (moves g.sheet (member_in (member_part w) id))
      → Memᴰ (record { member = member_in (member_part w) id; move = k }) all

-- What is kept is part of the set that grows from the seeds, and has all that its explored members bring.
pub record ExploredFor (g : Growth) (w : List ℕ) (s : Running) : Type 0 where
  pub members_in_lem : (x : Configuration) → Memᴰ x (members_of w s) → InSet g x
  pub seeds_in : (p : Configuration) → Memᴰ p g.seeds → Memᴰ p (members_of w s)
  pub done : (id : ℕ) → id < s.members → IsExplored w id → Done g w s id
  pub counted : Counted g w s
