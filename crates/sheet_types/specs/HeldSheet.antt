-- What the reader's types stand for: the nodes of the table, and the sheet that a struct holds.
use Rattle.std.specs.Prelude.{◌≡◌, cond, List, [], ◌∷◌, ℕ, ◌*◌, ◌<◌, length, get_or, take, drop, eqb}
use Rattle.packing.specs.Tabulate.{tabulate}
use Rattle.sheet_reading.specs.Sheet.{Node, stop, tell, ask, both, either, opened}
use Rattle.sheet_reading.specs.Sheet as spec
use Rattle.closure_table.specs.RuleTable.{rules_in}
use Rattle.sheet_types.specs.declared.Configuration.{Configuration}
use Rattle.sheet_types.specs.declared.Sheet.{Sheet}
use Rattle.sheet_types.specs.NodeTable.{Nodes, Opened, nodes_of}

-- the node that a kind byte and two held fields stand for, its set closed already; every kind above 3 stands for an either
abbrev pub node_held : ℕ → ℕ → ℕ → Node
node_held kind first second =
    cond (eqb kind 0) stop (cond (eqb kind 1) (tell first) (cond (eqb kind 2) (ask first second) (cond (eqb kind 3) (both first second) (either first second))))

abbrev pub node_in : Nodes → ℕ → Node
node_in ns k = node_held (get_or ns.kinds k 0) (get_or ns.firsts k 0) (get_or ns.seconds k 0)

-- the first n nodes
abbrev pub nodes_in : Nodes → ℕ → List Node
nodes_in ns n = tabulate (node_in ns) n

-- the threads held for node k
abbrev pub opened_in : Opened → ℕ → List ℕ
opened_in o k = take (get_or o.counts k 0) (drop (8 * k) o.threads)

-- the table holds what each node opens to
pub record OpenedHeld (nodes : List Node) (o : Opened) : Type 0 where
  pub at : (k : ℕ) → k < length nodes → opened_in o k ≡ opened nodes k

-- the configuration that the struct holds
abbrev pub configuration : Configuration → spec.Configuration
configuration c = record { store = c.store; threads = take c.count c.threads }

-- a configuration with store 0 and no threads
abbrev pub no_configuration : Configuration
no_configuration = record { store = 0; count = 0; threads = 0 ∷ 0 ∷ 0 ∷ 0 ∷ 0 ∷ 0 ∷ 0 ∷ 0 ∷ [] }

-- the first n starts
abbrev pub starts_in : List Configuration → ℕ → List spec.Configuration
starts_in cs n = tabulate (λ i. configuration (get_or cs i no_configuration)) n

-- the sheet that the struct holds
abbrev pub sheet_of : Sheet → spec.Sheet
sheet_of s =
    record {
      facts = s.facts;
      rules = rules_in s.rules s.rule_count;
      nodes = nodes_in (nodes_of s.table) s.node_count;
      starts = starts_in s.starts s.start_count;
    }
