-- Source 001, section 2, "Syntax": processes without hiding, over the constraints of a sheet. A sheet's node is a procedure
-- without parameters, named by its number, so that an ask may name any node.
use Rattle.std.specs.Prelude.{◌≡◌, List, [], ◌∷◌, ◌++◌, ℕ}
use Rattle.comparison_laws.specs.Lists.{sort_up}
use Rattle.comparison_laws.specs.Sheet as sheet
use Rattle.comparison_laws.specs.Sheet.{Node, Configuration, Sheet, node_of, opened}

-- 0, tell, ask, parallel composition, choice, and the call of a procedure.
pub data Term : Type 0 where
  nil : Term
  tell : (c : ℕ) → Term
  ask : (c : ℕ) → (next : Term) → Term
  parallel : (left : Term) → (right : Term) → Term
  choice : (left : Term) → (right : Term) → Term
  call : (node : ℕ) → Term

-- A configuration of the paper: a process and a store.
pub record Conf : Type 0 where
  pub term : Term
  pub store : ℕ

-- What a node stands for. The nodes that it names are calls.
abbrev pub body_of : Node → Term
body_of sheet.stop = nil
body_of (sheet.tell c) = tell c
body_of (sheet.ask c q) = ask c (call q)
body_of (sheet.both p q) = parallel (call p) (call q)
body_of (sheet.either p q) = choice (call p) (call q)

-- the definition of the procedure that node k is
abbrev pub defined : Sheet → ℕ → Term
defined s k = body_of (node_of s.nodes k)

-- The threads that a process made of nodes opens to: 0 to none, a node to those that document 01 opens it to, a parallel
-- composition to those of both its parts.
pub data Opens (nodes : List Node) : Term → List ℕ → Type 0 where
  opens_nil : Opens nodes nil []
  opens_call : (k : ℕ) → Opens nodes (call k) (opened nodes k)
  opens_parallel : {p q : Term} {ps qs : List ℕ} → Opens nodes p ps → Opens nodes q qs → Opens nodes (parallel p q) (ps ++ qs)

-- The configuration of document 01 that one of the paper is, up to order and stop: the same store, and its threads in
-- ascending order.
pub record Reads (s : Sheet) (x : Conf) (p : Configuration) : Type 0 where
  pub threads : List ℕ
  pub opens : Opens s.nodes x.term threads
  pub same_store : p.store ≡ x.store
  pub in_order : p.threads ≡ sort_up threads

-- the process that a list of threads is: all of them side by side
abbrev pub side_by_side : List ℕ → Term
side_by_side [] = nil
side_by_side (k ∷ ks) = parallel (call k) (side_by_side ks)
