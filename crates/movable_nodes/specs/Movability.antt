-- Marks of nodes: 1 for each node that can move, else 0.
use Rattle.std.specs.Prelude.{◌≡◌, Bool, cond, List, ℕ, ◌<◌, get_or, eqb}
use Rattle.sheet_types.specs.Sheet.{Node}
use Rattle.node_moves.specs.NodeMoves.{movable_of, movable}

-- the mark of a test
abbrev pub mark : Bool → ℕ
mark b = cond b 1 0

-- the mark at place k is 1
abbrev pub marked : List ℕ → ℕ → Bool
marked marks k = eqb (get_or marks k 0) 1

-- the mark of a node, where those of the nodes it is made of are there
abbrev pub mark_for : List ℕ → Node → ℕ
mark_for marks v = mark (movable_of (marked marks) v)

-- the marks of the first n nodes
pub record MovableHeld (nodes : List Node) (n : ℕ) (marks : List ℕ) : Type 0 where
  pub at : (k : ℕ) → k < n → get_or marks k 0 ≡ cond (movable nodes k) 1 0
