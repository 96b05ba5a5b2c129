-- What the steps of exploring ask and promise.
use Rattle.std.specs.Prelude.{◌≡◌, List, ℕ, ◌+◌, ◌*◌, ◌-◌, ◌<◌, get_or}
use Rattle.work_layout.specs.Frames.{SameOutside}
use Rattle.collected_moves.specs.PlacesPassed.{FirstPlace}
use Rattle.sheet_types.specs.Sheet.{Node}
use Rattle.work_layout.specs.Promise.{PassesLimit}
use Rattle.ask_labels.specs.declared.Shelf.{Shelf}
use Rattle.ask_labels.specs.LabelShelf.{Shelved}
use Rattle.member_table.specs.MemberTable.{member_in, id_in}
use Rattle.collected_moves.specs.declared.Running.{Running}
use Rattle.std.specs.Prelude.{Option, Some, None}
use Rattle.walk_state.specs.declared.Walk.{Walk}
use Rattle.collected_moves.specs.CollectedMoves.{member_part}
use Rattle.walk_state.specs.SetGrowth.{Growth}
use Rattle.walk_state.specs.WalkState.{OnSheet}
use Rattle.exploration.specs.declared.Plan.{Plan}
use Rattle.unexplored_members.specs.UnexploredMembers.{IsExplored}
use Rattle.exploration.specs.Exploration.{basis_of, Exploring, ExploredFor}
use Rattle.work_layout.specs.WorkLayout.{work_end, spans_at, member_room}

-- the store of a member
abbrev pub store_in : List ℕ → ℕ → ℕ
store_in w id = (member_in (member_part w) id).store

-- the sheet of a growth is the one that is explored
abbrev pub OnPlan : Growth → List Node → Plan → List ℕ → Type 0
OnPlan g nodes plan w = OnSheet g nodes (basis_of plan 0 0) w

-- ---- one member
-- the member with this id was explored, and no other
pub record MemberOn (nodes : List Node) (plan : Plan) (v : List ℕ) (s : Running) (id : ℕ) (w : List ℕ) (t : Running) (shelf : Shelf) : Type 0 where
  pub exploring : Exploring w plan t
  pub explored : IsExplored w id
  pub others : (i : ℕ) → i < member_room → (i ≡ id → ⊥) → get_or w (spans_at + i) 0 ≡ get_or v (spans_at + i) 0
  pub shelved : Shelved w plan.facts (store_in v id) shelf
  pub outside : SameOutside spans_at work_end v w
  pub explored_for : (g : Growth) → OnPlan g nodes plan v → ExploredFor g v s → ExploredFor g w t

-- a cap is passed: then the set passes a limit
pub record ExploredOver (nodes : List Node) (plan : Plan) (v : List ℕ) (s : Running) (w : List ℕ) : Type 0 where
  pub passes : (g : Growth) → OnPlan g nodes plan v → ExploredFor g v s → PassesLimit g.sheet g.limits g.seeds
  pub outside : SameOutside spans_at work_end v w

-- by the answer
abbrev pub MemberExplored : List Node → Plan → List ℕ → Running → ℕ → List ℕ → Option Walk → Type 0
MemberExplored nodes plan v s id w (Some t) = MemberOn nodes plan v s id w t.running t.shelf
MemberExplored nodes plan v s id w None = ExploredOver nodes plan v s w

-- ---- all members
-- every member is explored
pub record ExploredOn (nodes : List Node) (plan : Plan) (v : List ℕ) (s : Running) (w : List ℕ) (t : Running) : Type 0 where
  pub exploring : Exploring w plan t
  pub all : (id : ℕ) → id < t.members → IsExplored w id
  pub outside : SameOutside spans_at work_end v w
  pub explored_for : (g : Growth) → OnPlan g nodes plan v → ExploredFor g v s → ExploredFor g w t

-- by the answer
abbrev pub SetExplored : List Node → Plan → List ℕ → Running → List ℕ → Option Running → Type 0
SetExplored nodes plan v s w (Some t) = ExploredOn nodes plan v s w t
SetExplored nodes plan v s w None = ExploredOver nodes plan v s w
