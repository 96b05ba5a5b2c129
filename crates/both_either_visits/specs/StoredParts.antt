-- What storing the parts of a node that is made of two gives.
use Rattle.std.specs.Prelude.{Option}
use Rattle.std.specs.Prelude.{◌≡◌, cond, List, [], ◌∷◌, ℕ, get_or}
use Rattle.sheet_types.specs.Sheet.{Node, both, either, node_of, opened}
use Rattle.sheet_types.specs.NodeTable.{opened_of, movables_of}
use Rattle.sheet_types.specs.HeldSheet.{opened_in}
use Rattle.threads_beside.specs.NodeMoves.{NodeBeside, movable}
use Rattle.walk_state.specs.declared.Basis.{Basis}
use Rattle.walk_state.specs.declared.Walk.{Walk}
use Rattle.walk_state.specs.WalkState.{NodesOf, VisitFits, Walking, TurnOn, Turned}

-- the table has the threads of node k and its mark
pub record NodeKnown (nodes : List Node) (table : List ℕ) (k : ℕ) : Type 0 where
  pub opens : opened_in (opened_of table) k ≡ opened nodes k
  pub mark : get_or (movables_of table) k 0 ≡ cond (movable nodes k) 1 0

-- the node of e is a both of p and q, on whatever sheet whose threads and marks the table has: then the turn is as it should be
pub record BothTurned (rank : ℕ → ℕ) (table : List ℕ) (p q : ℕ) (b : Basis) (v : List ℕ) (s : Walk) (e : NodeBeside)
    (w : List ℕ) (r : Option Walk) : Type 0 where
  pub turned : (nodes : List Node) → NodesOf rank b nodes → node_of nodes e.node ≡ both p q
      → NodeKnown nodes table p → NodeKnown nodes table q → Turned rank nodes b v s (e ∷ []) w r

-- the node of e is an either of p and q, on whatever sheet and for whatever basis that fits: then the turn is as it should be
pub record EitherTurned (rank : ℕ → ℕ) (p q : ℕ) (v : List ℕ) (s : Walk) (e : NodeBeside) (w : List ℕ) (t : Walk) : Type 0 where
  pub turned : (b : Basis) → Walking rank v b s → VisitFits b e → (nodes : List Node) → NodesOf rank b nodes
      → node_of nodes e.node ≡ either p q → TurnOn rank nodes b v s (e ∷ []) w t
