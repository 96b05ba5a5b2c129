-- The table of nodes, filled: what each node opens to, and which nodes can move.
use Rattle.std.specs.Prelude.{List, ℕ, length}
use Rattle.sheet_types.specs.Sheet.{Node}
use Rattle.sheet_types.specs.NodeTable.{opened_of, movables_of}
use Rattle.node_opening.specs.OpenedNodes.{OpenedTable}
use Rattle.movable_nodes.specs.Movability.{MovableHeld}

pub record NodeTable (ns : List Node) (t : List ℕ) : Type 0 where
  pub opened : OpenedTable ns (opened_of t)
  pub marks : MovableHeld ns (length ns) (movables_of t)
