-- A rank of nodes: a number that is lower for the parts of a both and of an either than for the node itself, so that whatever goes
-- from a node to its parts ends.
use Rattle.std.specs.Prelude.{List, ℕ, ◌<◌, length}
use Rattle.sheet_reading.specs.Sheet.{Node, stop, tell, ask, both, either, node_of}

-- P holds of the nodes that a both or an either is made of
abbrev pub OfParts : (ℕ → Type 0) → Node → Type 0
OfParts P stop = Unit {0}
OfParts P (tell c) = Unit {0}
OfParts P (ask c q) = Unit {0}
OfParts P (both p q) = P p × P q
OfParts P (either p q) = P p × P q

-- a both and an either name nodes below k
abbrev pub LowerNames : ℕ → Node → Type 0
LowerNames k n = OfParts (λ p. p < k) n

-- p may be a part of node k of n: it is one of the nodes, and its rank is lower
pub record Part (rank : ℕ → ℕ) (n k p : ℕ) : Type 0 where
  pub inside : p < n
  pub lower : rank p < rank k

-- the parts of every node are nodes of the list with a lower rank, and the ranks of n nodes are below n
pub record Ranked (rank : ℕ → ℕ) (ns : List Node) : Type 0 where
  pub parts : (k : ℕ) → OfParts (Part rank (length ns) k) (node_of ns k)
  pub small : (k : ℕ) → k < length ns → rank k < length ns

-- The rank that is meant: a node's number, since a both and an either name lower nodes. It is shut, so that a proof which needs the
-- number says so.
unfoldable pub rank_of : ℕ → ℕ
rank_of k = k

-- what holds of the parts, by what follows from it
pub parts_map : (P Q : ℕ → Type 0) → ((p : ℕ) → P p → Q p) → (n : Node) → OfParts P n → OfParts Q n
parts_map P Q f stop h = tt
parts_map P Q f (tell c) h = tt
parts_map P Q f (ask c q) h = tt
parts_map P Q f (both p q) h = (f p h.0, f q h.1)
parts_map P Q f (either p q) h = (f p h.0, f q h.1)
