-- What every sheet that was read has (document 01, "The sheet"), and the processes and configurations of a sheet
-- ("Rounds", the plain counterpart).
use Rattle.std.specs.Prelude.{◌≡◌, ℕ, ◌≤◌, ◌<◌, ◌^◌, length}
use mathlib.Core.List.{List, [], ◌∷◌, Memᴰ}
use Rattle.stores.specs.Stores.{Rule, Constraint}
use Rattle.lists.specs.Lists.{NotFalling}
use Rattle.sheets.specs.SheetLimits.{max_facts, max_rules, min_nodes, max_nodes, min_starts, max_starts, max_threads}
use Rattle.sheets.specs.Sheet.{Node, stop, tell, ask, both, either, Configuration, Sheet, node_of, opened}

-- A process of the sheet: a list of any length, in ascending order with repeats kept, of nodes that open to themselves.
pub record Process (nodes : List Node) (threads : List ℕ) : Type 0 where
  pub ascending : NotFalling threads
  pub self_opening : (k : ℕ) → Memᴰ k threads → opened nodes k ≡ k ∷ []

-- A configuration of the sheet: any store with any process.
pub record OfSheet (sheet : Sheet) (p : Configuration) : Type 0 where
  pub store : Constraint sheet.facts sheet.rules p.store
  pub process : Process sheet.nodes p.threads

-- Both sets of a rule hold facts of the sheet.
pub record RuleFits (facts : ℕ) (r : Rule) : Type 0 where
  pub premise : r.premise < 2 ^ facts
  pub conclusion : r.conclusion < 2 ^ facts

-- Node k of n: its set is a constraint; an ask names any node, both and either name lower nodes only.
abbrev pub NodeFits : ℕ → List Rule → ℕ → ℕ → Node → Type 0
NodeFits facts rules n k stop = Unit {0}
NodeFits facts rules n k (tell c) = Constraint facts rules c
NodeFits facts rules n k (ask c q) = Constraint facts rules c × (q < n)
NodeFits facts rules n k (both p q) = (p < k) × (q < k)
NodeFits facts rules n k (either p q) = (p < k) × (q < k)

-- What the theory asks of a sheet: its rules and its nodes fit.
pub record WellFormed (sheet : Sheet) : Type 0 where
  pub rules_fit : (r : Rule) → Memᴰ r sheet.rules → RuleFits sheet.facts r
  pub nodes_fit : (k : ℕ) → k < length sheet.nodes
      → NodeFits sheet.facts sheet.rules (length sheet.nodes) k (node_of sheet.nodes k)

-- The limits of a sheet: how many facts, rules, nodes and starts it has, and threads of what a node and a start open to.
pub record WithinLimits (sheet : Sheet) : Type 0 where
  pub few_facts : sheet.facts ≤ max_facts
  pub few_rules_lem : length sheet.rules ≤ max_rules
  pub some_nodes : min_nodes ≤ length sheet.nodes
  pub few_nodes : length sheet.nodes ≤ max_nodes
  pub some_starts : min_starts ≤ length sheet.starts
  pub few_starts : length sheet.starts ≤ max_starts
  pub nodes_open : (k : ℕ) → k < length sheet.nodes → length (opened sheet.nodes k) ≤ max_threads
  pub starts_threads : (p : Configuration) → Memᴰ p sheet.starts → length p.threads ≤ max_threads

-- What every sheet that was read has: it is well formed and within its limits, and its starts are configurations of it.
pub record Admissible (sheet : Sheet) : Type 0 where
  pub well_formed : WellFormed sheet
  pub within : WithinLimits sheet
  pub starts_fit : (p : Configuration) → Memᴰ p sheet.starts → OfSheet sheet p
