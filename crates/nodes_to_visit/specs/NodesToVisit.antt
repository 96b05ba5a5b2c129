-- Nodes with threads beside them that are still to be visited, in the work slice: entry i has three numbers, those of a
-- configuration with the node's number in the store's place.
use Rattle.std.specs.Prelude.{◌≡◌, List, ℕ, ◌+◌, ◌-◌, ◌*◌, ◌/◌, ◌≤◌, ◌<◌, get_or}
use Rattle.packing.specs.Tabulate.{tabulate}
use Rattle.packing.specs.Frames.{SameOutside}
use Rattle.threads_beside.specs.NodeMoves.{NodeBeside}
use Rattle.packing.specs.declared.Numbers.{Numbers}
use Rattle.packing.specs.Packing.{number0, number1, number2, unpacked, Packed}
use Rattle.threads_beside.specs.ThreadsBeside.{placed}
use Rattle.work_layout.specs.WorkLayout.{pending_at, pending_end}

-- the three numbers of entry i are those of a configuration
abbrev pub PendingPacked : List ℕ → ℕ → Type 0
PendingPacked w i = Packed (get_or w (pending_at + 3 * i) 0) (get_or w (pending_at + 3 * i + 1) 0) (get_or w (pending_at + 3 * i + 2) 0)

-- entry i
abbrev pub pending_one : List ℕ → ℕ → NodeBeside
pending_one w i = placed (unpacked (get_or w (pending_at + 3 * i) 0) (get_or w (pending_at + 3 * i + 1) 0) (get_or w (pending_at + 3 * i + 2) 0))

-- the first n entries
abbrev pub pending_in : List ℕ → ℕ → List NodeBeside
pending_in w n = tabulate (pending_one w) n

-- e was stored as entry n
pub record Pushed (v : List ℕ) (n : ℕ) (e : NodeBeside) (w : List ℕ) : Type 0 where
  pub packed : PendingPacked w n
  pub stored : pending_one w n ≡ e
  pub outside : SameOutside (pending_at + 3 * n) (pending_at + 3 * n + 3) v w

-- the three numbers of an entry
abbrev pub entry_numbers : NodeBeside → Numbers
entry_numbers e = record {
  a = number0 (record { store = e.node; threads = e.threads });
  b = number1 (record { store = e.node; threads = e.threads });
  c = number2 (record { store = e.node; threads = e.threads });
}

-- An entry e that stays above one with the numbers x: another one, with the same two numbers of threads and a node whose rank is not
-- below that of x and is below n.
pub record StaysAbove (rank : ℕ → ℕ) (n : ℕ) (x : Numbers) (e : NodeBeside) : Type 0 where
  pub other : (entry_numbers e).a ≡ x.a → ⊥
  pub same : ((entry_numbers e).b ≡ x.b) × ((entry_numbers e).c ≡ x.c)
  pub high : rank (x.a / 256) ≤ rank e.node
  pub low : rank e.node < n

-- the entries from place i on stay above it
abbrev pub AboveFrom : (ℕ → ℕ) → List ℕ → ℕ → ℕ → Numbers → ℕ → Type 0
AboveFrom rank w top n x i = (j : ℕ) → i ≤ j → j < top → StaysAbove rank n x (pending_one w j)

-- x was put in as entry k of the nodes to visit: the entries from there on stay above it and stand one higher, the one before it is another
-- and does not stay above it
pub record PutAmong (rank : ℕ → ℕ) (v : List ℕ) (top n k : ℕ) (x : NodeBeside) (w : List ℕ) : Type 0 where
  pub place : k ≤ top
  pub below : (i : ℕ) → i < k → pending_one w i ≡ pending_one v i
  pub here : pending_one w k ≡ x
  pub above : (i : ℕ) → k ≤ i → i < top → (pending_one w (i + 1) ≡ pending_one v i) × StaysAbove rank n (entry_numbers x) (pending_one v i)
  pub last : 0 < k → (pending_one v (k - 1) ≡ x → ⊥) × (StaysAbove rank n (entry_numbers x) (pending_one v (k - 1)) → ⊥)
  pub packed : (i : ℕ) → i ≤ top → PendingPacked w i
  pub outside : SameOutside pending_at pending_end v w

-- x is among the nodes to visit, `next` of them where there were `top`: it was there already below entries that stay above it, or was
-- put in below those.
pub data Entered (rank : ℕ → ℕ) (v : List ℕ) (top n : ℕ) (x : NodeBeside) : List ℕ → ℕ → Type 0 where
  there : (i : ℕ) → i < top → pending_one v i ≡ x → AboveFrom rank v top n (entry_numbers x) (i + 1) → Entered rank v top n x v top
  put : (k : ℕ) {w : List ℕ} → PutAmong rank v top n k x w → Entered rank v top n x w (top + 1)
