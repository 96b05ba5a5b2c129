-- Document 01, "The sheet" and the first paragraph of "Configurations and moves": node kinds, a sheet, opening, a
-- configuration.
use Rattle.std.specs.Prelude.{List, [], ◌∷◌, ◌++◌, ℕ, zero, suc, length, get_or}
use Rattle.stores.specs.Stores.{Rule}
use Rattle.lists.specs.Lists.{sort_up, concat_map}

-- A node: the paper's processes without hiding and calls. A set is a constraint, a number is a node's.
pub data Node : Type 0 where
  stop : Node
  tell : (set : ℕ) → Node
  ask : (set : ℕ) → (next : ℕ) → Node
  both : (left : ℕ) → (right : ℕ) → Node
  either : (left : ℕ) → (right : ℕ) → Node

-- A configuration: one store and threads, each a node's number.
pub record Configuration : Type 0 where
  pub store : ℕ
  pub threads : List ℕ

-- A sheet that was read: the number of facts, the rules as written, the nodes with their sets closed, and the starts as
-- configurations. Names of facts are checked and not kept: nothing depends on them.
pub record Sheet : Type 0 where
  pub facts : ℕ
  pub rules : List Rule
  pub nodes : List Node
  pub starts : List Configuration

-- node k; beyond the nodes there is nothing to do
abbrev pub node_of : List Node → ℕ → Node
node_of ns k = get_or ns k stop

-- What node k opens to, where `inner` opens its parts: stop gives no thread, both gives those of its two nodes, any other
-- kind gives itself.
abbrev pub opening_of : (ℕ → List ℕ) → ℕ → Node → List ℕ
opening_of inner k stop = []
opening_of inner k (tell c) = k ∷ []
opening_of inner k (ask c q) = k ∷ []
opening_of inner k (both p q) = inner p ++ inner q
opening_of inner k (either p q) = k ∷ []

-- opening through at most n nodes, one inside the other
unfoldable pub open_within : ℕ → List Node → ℕ → List ℕ
open_within zero ns k = []
open_within (suc n) ns k = opening_of (open_within n ns) k (node_of ns k)

-- The threads of a node. No node lies inside itself, so no chain of nodes is longer than the list.
abbrev pub opened : List Node → ℕ → List ℕ
opened ns k = open_within (length ns) ns k

-- The threads that a list of nodes opens to, in ascending order, repeats kept.
abbrev pub opened_all : List Node → List ℕ → List ℕ
opened_all ns ks = sort_up (concat_map (opened ns) ks)

-- start k of a sheet
abbrev pub start : Sheet → ℕ → Configuration
start sheet k = get_or sheet.starts k (record { store = 0; threads = [] })
