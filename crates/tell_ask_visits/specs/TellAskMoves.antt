-- What a tell and an ask give, read off a slice that begins with a table of closures.
use Rattle.std.specs.Prelude.{Option}
use Rattle.std.specs.Prelude.{◌≡◌, List, [], ◌∷◌, ℕ, ◌%◌, get_or}
use Rattle.std.specs.Int.Bits.{bit_or}
use Rattle.sheet_types.specs.Sheet.{Node, ask, node_of, opened}
use Rattle.sheet_types.specs.Orders.{Move}
use Rattle.threads_beside.specs.NodeMoves.{NodeBeside}
use Rattle.sheet_types.specs.NodeTable.{opened_of}
use Rattle.sheet_types.specs.HeldSheet.{opened_in}
use Rattle.walk_state.specs.declared.Basis.{Basis}
use Rattle.walk_state.specs.declared.Walk.{Walk}
use Rattle.walk_state.specs.WalkState.{NodesOf, Turned}

-- the move of a tell of c at store d with these threads beside it: its label is the closure of the empty set
abbrev pub tell_move : List ℕ → ℕ → List ℕ → ℕ → Move
tell_move w d ts c = record { label = get_or w 0 0 % 65536; target = record { store = get_or w (bit_or d c) 0 % 65536; threads = ts } }

-- the node of e is an ask of c, then node q, on whatever sheet where q opens to the threads in the table: then the turn is as it
-- should be
pub record AskTurned (rank : ℕ → ℕ) (table : List ℕ) (c q : ℕ) (b : Basis) (v : List ℕ) (s : Walk) (e : NodeBeside) (w : List ℕ)
    (r : Option Walk) : Type 0 where
  pub turned : (nodes : List Node) → NodesOf rank b nodes → node_of nodes e.node ≡ ask c q
      → opened_in (opened_of table) q ≡ opened nodes q → Turned rank nodes b v s (e ∷ []) w r
