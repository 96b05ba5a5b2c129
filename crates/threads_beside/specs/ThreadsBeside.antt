-- Nodes with threads beside them: as a struct holds them, as three numbers stand for them, a thread of a configuration with the others
-- beside it, and the threads of a node put among those beside another.
use Rattle.std.specs.Prelude.{◌≡◌, List, ℕ, ◌+◌, ◌≤◌, ◌<◌, length, get_or, take, Option, Some, None}
use Rattle.std.proofs.Common.{ap}
use Rattle.packing.specs.SortingLaws.{insert_all}
use Rattle.sheet_types.specs.Sheet.{Configuration}
use Rattle.node_moves.specs.NodeMoves as spec
use Rattle.node_moves.specs.ThreadLaws.{rest_without}
use Rattle.packing.specs.declared.Numbers.{Numbers}
use Rattle.packing.specs.Packing.{stands_for}
use Rattle.threads_beside.specs.declared.NodeBeside.{NodeBeside}

-- the one that the struct holds
abbrev pub node_beside : NodeBeside → spec.NodeBeside
node_beside e = record { node = e.node; threads = take e.count e.threads }

-- the one that is kept as a configuration's three numbers, with its node in the store's place
abbrev pub placed : Configuration → spec.NodeBeside
placed x = record { node = x.store; threads = x.threads }

-- no two configurations are kept for one
pub placed_one : {x y : Configuration} → placed x ≡ placed y → x ≡ y
placed_one e = ap (λ (z : spec.NodeBeside). record { store = z.node; threads = z.threads }) e

-- the one that three numbers stand for
abbrev pub node_for : Numbers → spec.NodeBeside
node_for x = placed (stands_for x)

-- the thread at place i of a configuration, with the others beside it
abbrev pub thread_at : Configuration → ℕ → spec.NodeBeside
thread_at e i = record { node = get_or e.threads i 0; threads = rest_without e.threads i }

-- e with the threads of a node put among its own, in ascending order, which are not more than the limit. The array beyond the count is
-- free.
pub record BesideJoined (threads : List ℕ) (e : NodeBeside) (limit : ℕ) (at : NodeBeside) : Type 0 where
  pub fits : e.count + length threads ≤ limit
  pub joined : node_beside at ≡ record { node = e.node; threads = insert_all (node_beside e).threads threads }
  pub count : at.count ≡ e.count + length threads

-- the same by the answer: there is none where they are more than the limit
abbrev pub PutBeside : List ℕ → NodeBeside → ℕ → Option NodeBeside → Type 0
PutBeside threads e limit (Some at) = BesideJoined threads e limit at
PutBeside threads e limit None = limit < e.count + length threads
