-- A walk over the nodes of one thread: each node with threads beside it is visited, what it gives at once is noted, and what
-- it is made of is kept until it is visited too.
use Rattle.std.specs.Prelude.{◌≡◌, ◌⊎◌, ℕ, ◌+◌, ◌^◌, ◌≤◌, ◌<◌, length, get_or}
use mathlib.Core.List.{List, [], ◌∷◌, ◌++◌, map, Memᴰ}
use Rattle.nodes_to_visit.specs.Lists.{NotFalling}
use Rattle.nodes_to_visit.specs.Frames.{SameOutside}
use Rattle.nodes_to_visit.specs.Sheet.{Node, tell, ask, Configuration, node_of, opened}
use Rattle.movable_nodes.specs.Ranks.{Ranked}
use Rattle.nodes_to_visit.specs.Orders.{Move}
use Rattle.nodes_to_visit.specs.Moves.{moves}
use Rattle.movable_nodes.specs.NodeTable.{nodes_of, opened_of, movables_of}
use Rattle.movable_nodes.specs.HeldSheet.{nodes_in, opened_in}
use Rattle.movable_nodes.specs.NodeMoves.{NodeBeside, placed_moves}
use Rattle.nodes_to_visit.specs.Promise.{PassesLimit}
use Rattle.ask_labels.specs.ClosureTable.{Closures}
use Rattle.movable_nodes.specs.Movability.{MovableHeld}
use Rattle.collected_moves.specs.MemberTable.{members_in, part_at, Kept}
use Rattle.ask_labels.specs.LabelShelf.{ShelfRoom, Shelved}
use Rattle.collected_moves.specs.CollectedMoves.{Collecting, Grown, members_of, moves_of}
use Rattle.set_growth.specs.SetGrowth.{Growth, Sound, InHand, Gathered}
use Rattle.nodes_to_visit.specs.ThreadsBeside.{placed}
use Rattle.nodes_to_visit.specs.NodesToVisit.{PendingPacked, pending_one, pending_in}
use Rattle.nodes_to_visit.specs.NodesToVisitLaws.{weight}
use Rattle.walk_state.specs.declared.Basis.{Basis}
use Rattle.walk_state.specs.declared.Walk.{Walk}
use Rattle.std.specs.Prelude.{Option, Some, None}
use Rattle.collected_moves.specs.WorkLayout.{work_end, moves_at, marks_at}
use Rattle.nodes_to_visit.specs.SheetLimits.{max_nodes, max_threads}

-- ---- what is lent of the sheet: its nodes by number, the threads that each opens to, and which can move
pub record NodesLent (rank : ℕ → ℕ) (table : List ℕ) (b : Basis) : Type 0 where
  pub few : b.nodes ≤ max_nodes
  pub ranked : Ranked rank (nodes_in (nodes_of table) b.nodes)
  pub told : (k c : ℕ) → k < b.nodes → node_of (nodes_in (nodes_of table) b.nodes) k ≡ tell c → c < 2 ^ b.facts
  pub asked : (k c q : ℕ) → k < b.nodes → node_of (nodes_in (nodes_of table) b.nodes) k ≡ ask c q → (c < 2 ^ b.facts) × (q < b.nodes)
  pub opens : (k : ℕ) → k < b.nodes → opened_in (opened_of table) k ≡ opened (nodes_in (nodes_of table) b.nodes) k
  pub few_threads : (k : ℕ) → k < b.nodes → get_or (opened_of table).counts k 0 ≤ max_threads
  pub movable : MovableHeld (nodes_in (nodes_of table) b.nodes) b.nodes (movables_of table)

-- the nodes of a sheet with this basis: so many, and ranked
pub record NodesOf (rank : ℕ → ℕ) (b : Basis) (nodes : List Node) : Type 0 where
  pub count : length nodes ≡ b.nodes
  pub ranked : Ranked rank nodes

-- ---- the slice during a walk
-- threads of the sheet, in ascending order and not more than a member may have
pub record ThreadsFit (b : Basis) (ts : List ℕ) : Type 0 where
  pub few : length ts ≤ b.caps.threads
  pub ascending : NotFalling ts
  pub nodes : (t : ℕ) → Memᴰ t ts → t < b.nodes

-- a member: a set of the sheet's facts, and threads that fit
pub record MemberFits (b : Basis) (x : Configuration) : Type 0 where
  pub store : x.store < 2 ^ b.facts
  pub threads : ThreadsFit b x.threads

-- a node to visit: one of the sheet's, with threads beside it that fit
pub record VisitFits (b : Basis) (e : NodeBeside) : Type 0 where
  pub node : e.node < b.nodes
  pub threads : ThreadsFit b e.threads

-- entry i of the nodes to visit; its node has a rank low enough for all that can be stored above it
pub record Entry (rank : ℕ → ℕ) (w : List ℕ) (b : Basis) (i : ℕ) : Type 0 where
  pub packed : PendingPacked w i
  pub fits : VisitFits b (pending_one w i)
  pub height : rank (pending_one w i).node + i < 64

-- the nodes that are marked as visited, each with threads beside it: their numbers stand in a table of members
abbrev pub marks_of : List ℕ → ℕ → List NodeBeside
marks_of w n = map placed (members_in (part_at w marks_at) n)

-- members and moves, marks, labels and nodes to visit are all in order
pub record Walking (rank : ℕ → ℕ) (w : List ℕ) (b : Basis) (s : Walk) : Type 0 where
  pub collecting : Collecting w b.first s.running b.caps
  pub fit : (x : Configuration) → Memᴰ x (members_of w s.running) → MemberFits b x
  pub small : (m : Move) → Memᴰ m (moves_of w b.first s.running) → m.label < 2 ^ b.facts
  pub marks : Kept (part_at w marks_at) s.marks
  pub shelf_room : ShelfRoom b.facts b.store w
  pub shelved : Shelved w b.facts b.store s.shelf
  pub top : s.top ≤ 64
  pub entries : (i : ℕ) → i < s.top → Entry rank w b i

-- ---- what the walk does for a set
-- a move is in reach: it is collected, or a node that is still to be visited gives it
abbrev pub InReach : Growth → Basis → List ℕ → Walk → List NodeBeside → Move → Type 0
InReach g b w s extra m =
    Memᴰ m (moves_of w b.first s.running)
    ⊎ ((e : NodeBeside) × Memᴰ e (extra ++ pending_in w s.top) × Memᴰ m (placed_moves g.sheet b.store e))

-- a move is in reach below rank n: it is collected, or a node of a lower rank that is still to be visited gives it, or an extra one
-- of a rank that is not higher
abbrev pub InReachBelow : (ℕ → ℕ) → Growth → Basis → List ℕ → Walk → List NodeBeside → ℕ → Move → Type 0
InReachBelow rank g b w s extra n m =
    Memᴰ m (moves_of w b.first s.running)
    ⊎ (((e : NodeBeside) × Memᴰ e extra × (rank e.node ≤ n) × Memᴰ m (placed_moves g.sheet b.store e))
    ⊎ ((e : NodeBeside) × Memᴰ e (pending_in w s.top) × (rank e.node < n) × Memᴰ m (placed_moves g.sheet b.store e)))

-- Members and moves are gathered; what a visited node gives is in reach below its rank, so that it need not be visited again; what a
-- node to visit gives are moves of the member in hand. `extra` are nodes to visit that stand in no entry.
pub record Covering (rank : ℕ → ℕ) (g : Growth) (h : InHand g) (b : Basis) (w : List ℕ) (s : Walk) (extra : List NodeBeside) : Type 0 where
  pub gathered : Gathered g h w b.first s.running
  pub visited : (e : NodeBeside) → Memᴰ e (marks_of w s.marks)
      → (m : Move) → Memᴰ m (placed_moves g.sheet b.store e) → InReachBelow rank g b w s extra (rank e.node) m
  pub given : (e : NodeBeside) → Memᴰ e (extra ++ pending_in w s.top)
      → (m : Move) → Memᴰ m (placed_moves g.sheet b.store e) → Memᴰ m (moves g.sheet h.member)

-- the sheet of a growth is the one whose table of closures the slice has and whose nodes are these
pub record OnSheet (g : Growth) (nodes : List Node) (b : Basis) (w : List ℕ) : Type 0 where
  pub sound : Sound g b.caps
  pub nodes_are : g.sheet.nodes ≡ nodes
  pub node_count_lem : length nodes ≡ b.nodes
  pub facts_are : g.sheet.facts ≡ b.facts
  pub closures : Closures g.sheet.rules 0 (2 ^ b.facts) w

-- from (v, s) with these extra nodes to (w, t): nothing that was in reach is lost
pub record Carried (rank : ℕ → ℕ) (g : Growth) (h : InHand g) (b : Basis) (v : List ℕ) (s : Walk) (extra : List NodeBeside) (w : List ℕ) (t : Walk) : Type 0 where
  pub covering : Covering rank g h b w t []
  pub carries : (m : Move) → InReach g b v s extra m → InReach g b w t [] m

-- A turn of the walk, from the nodes to visit and the extra ones: all is in order, no less is in reach, and less is left to do.
pub record TurnOn (rank : ℕ → ℕ) (nodes : List Node) (b : Basis) (v : List ℕ) (s : Walk) (extra : List NodeBeside) (w : List ℕ) (t : Walk) : Type 0 where
  pub walking : Walking rank w b t
  pub grown : Grown v b.first s.running w t.running
  pub lighter : weight rank (pending_in w t.top) < weight rank (extra ++ pending_in v s.top)
  pub carried : (g : Growth) (h : InHand g) → OnSheet g nodes b v → Covering rank g h b v s extra → Carried rank g h b v s extra w t

-- a turn that passes a cap: then the set passes a limit
pub record TurnOver (rank : ℕ → ℕ) (nodes : List Node) (b : Basis) (v : List ℕ) (s : Walk) (extra : List NodeBeside) (w : List ℕ) : Type 0 where
  pub passes : (g : Growth) (h : InHand g) → OnSheet g nodes b v → Covering rank g h b v s extra → PassesLimit g.sheet g.limits g.seeds
  pub outside : SameOutside (moves_at + b.first) work_end v w

-- by the answer
abbrev pub Turned : (ℕ → ℕ) → List Node → Basis → List ℕ → Walk → List NodeBeside → List ℕ → Option Walk → Type 0
Turned rank nodes b v s extra w (Some t) = TurnOn rank nodes b v s extra w t
Turned rank nodes b v s extra w None = TurnOver rank nodes b v s extra w

-- the node of e is of this kind, on whatever sheet: then the turn is as it should be
pub record TurnedAs (rank : ℕ → ℕ) (kind : Node) (b : Basis) (v : List ℕ) (s : Walk) (e : NodeBeside) (w : List ℕ) (r : Option Walk) : Type 0 where
  pub turned : (nodes : List Node) → NodesOf rank b nodes → node_of nodes e.node ≡ kind → Turned rank nodes b v s (e ∷ []) w r
