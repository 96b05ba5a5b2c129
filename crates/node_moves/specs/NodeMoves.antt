-- The moves of a configuration, node by node: what one node gives beside other threads, and whether it gives any.
-- (Document 01, "Configurations and moves".)
use Rattle.std.specs.Prelude.{Bool, true, false, ◌||◌, List, map, ℕ, zero, suc, length}
use Rattle.move_laws.specs.Sheet.{Node, stop, tell, ask, both, either, Sheet, node_of}
use Rattle.move_laws.specs.Orders.{Move}
use Rattle.move_laws.specs.Moves.{steps, move_of}

-- the moves that node k gives at store d with these threads beside it
abbrev pub node_moves : Sheet → ℕ → List ℕ → ℕ → List Move
node_moves sheet d beside k = map (move_of beside) (steps sheet d k)

-- a node with threads beside it: the node may move, the threads stay
pub record NodeBeside : Type 0 where
  pub node : ℕ
  pub threads : List ℕ

-- the moves that it gives at store d
abbrev pub placed_moves : Sheet → ℕ → NodeBeside → List Move
placed_moves sheet d e = node_moves sheet d e.threads e.node

-- Whether a node has a step, where `inner` tells it of the nodes it is made of: a tell and an ask always have one.
abbrev pub movable_of : (ℕ → Bool) → Node → Bool
movable_of inner stop = false
movable_of inner (tell c) = true
movable_of inner (ask c q) = true
movable_of inner (both p q) = inner p || inner q
movable_of inner (either p q) = inner p || inner q

-- through at most n nodes, one inside the other
unfoldable pub movable_within : ℕ → List Node → ℕ → Bool
movable_within zero ns k = false
movable_within (suc n) ns k = movable_of (movable_within n ns) (node_of ns k)

-- whether node k has a step at all; it does not depend on the store
abbrev pub movable : List Node → ℕ → Bool
movable ns k = movable_within (length ns) ns k
