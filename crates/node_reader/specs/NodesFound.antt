-- What the readers of nodes find.
use Rattle.std.specs.Prelude.{◌≡◌, ◌⊎◌, List, Result, Err, IfOk, ℕ, ◌*◌, ◌≤◌, ◌<◌, length, set}
use Rattle.std.proofs.Common.{sym}
use Rattle.set_closure.specs.Stores.{Rule}
use Rattle.set_closure.specs.SheetLimits.{min_nodes, max_nodes, max_threads}
use Rattle.sheet_types.specs.Sheet.{Node}
use Rattle.sheet_types.specs.Reading.{Reading, refused}
use Rattle.sheet_fields.specs.NodeFields.{node_fields_at}
use Rattle.refusals.specs.Numbers.{number}
use Rattle.refusals.specs.declared.Refused.{Refused}
use Rattle.sheet_fields.specs.Answers.{read_as}
use Rattle.sheet_types.specs.KindBytes.{kind_byte}
use Rattle.sheet_types.specs.HeldSheet.{node_held, nodes_in}
use Rattle.sheet_types.specs.NodeTable.{Nodes, Opened, nodes_of, opened_of, movables_of, table_end}
use Rattle.movable_nodes.specs.Movability.{mark_for}
use Rattle.movable_nodes.specs.NodeTables.{NodeTable}
use Rattle.node_reader.specs.declared.NodeFields.{NodeFields}
use Rattle.node_reader.specs.declared.NodesRead.{NodesRead}

-- the readings that they stand for
abbrev pub node_read : Result NodeFields Refused → Reading Node
node_read = read_as (λ x. node_held (kind_byte x.kind) x.first x.second) (λ x. x.next)

abbrev pub nodes_read : Result NodesRead Refused → Reading (List Node)
nodes_read = read_as (λ x. nodes_in (nodes_of x.table) x.count) (λ x. x.next)

-- one node's fields
pub record NodeFound (facts : ℕ) (rules : List Rule) (nodes number : ℕ) (s : List ℕ) (at : ℕ) (r : Result NodeFields Refused) : Type 0 where
  pub reading : node_read r ≡ node_fields_at facts rules nodes number s at
  pub second : IfOk r (λ x. (x.second < nodes) ⊎ (x.second ≤ number))

-- the nodes have a place for each number, and eight for its threads
pub record Room (nodes : Nodes) (o : Opened) : Type 0 where
  pub kinds : length nodes.kinds ≡ max_nodes
  pub firsts : length nodes.firsts ≡ max_nodes
  pub seconds : length nodes.seconds ≡ max_nodes
  pub counts : length o.counts ≡ max_nodes
  pub threads : length o.threads ≡ max_threads * max_nodes

-- the nodes with one more
abbrev pub with_node : Nodes → ℕ → ℕ → ℕ → ℕ → Nodes
with_node ns k kind first second = record { kinds = set ns.kinds k kind; firsts = set ns.firsts k first; seconds = set ns.seconds k second }

-- the table has this node as its node k, and whether it can move; the rest stays
pub record NodePut (v : List ℕ) (k kind first second : ℕ) (w : List ℕ) : Type 0 where
  pub nodes : nodes_of w ≡ with_node (nodes_of v) k kind first second
  pub opened : opened_of w ≡ opened_of v
  pub marks : movables_of w ≡ set (movables_of v) k (mark_for (movables_of v) (node_held kind first second))
  pub long : length w ≡ length v

-- nodes, with the threads that each opens to
pub record NodesHeld (s : List ℕ) (x : NodesRead) : Type 0 where
  pub within : x.next ≤ length s
  pub some : min_nodes ≤ x.count
  pub few : x.count ≤ max_nodes
  pub room : length x.table ≡ table_end
  pub table : NodeTable (nodes_in (nodes_of x.table) x.count) x.table

-- all nodes, or the refusal
pub record NodesFound (m : Reading (List Node)) (s : List ℕ) (r : Result NodesRead Refused) : Type 0 where
  pub reading : nodes_read r ≡ m
  pub held : IfOk r (NodesHeld s)

-- ---- a refusal
pub node_refused : (facts : ℕ) (rules : List Rule) (nodes i : ℕ) (s : List ℕ) (at : ℕ) (e : Refused)
    → node_fields_at facts rules nodes i s at ≡ refused (number e.refusal) e.place → NodeFound facts rules nodes i s at (Err e)
node_refused facts rules nodes i s at e h = record { reading = sym h; second = tt }

pub nodes_refused : (m : Reading (List Node)) (s : List ℕ) (e : Refused) → m ≡ refused (number e.refusal) e.place → NodesFound m s (Err e)
nodes_refused m s e h = record { reading = sym h; held = tt }
