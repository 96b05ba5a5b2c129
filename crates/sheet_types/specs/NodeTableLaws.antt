-- Laws of the table of nodes: what is read from a column, and what bytes stored in the table change.
use Rattle.std.specs.Prelude.{◌≡◌, refl, ◌⊎◌, List, [], ◌∷◌, ℕ, suc, ◌+◌, ◌*◌, ◌≤◌, ◌<◌, get_or, set, take, drop}
use Rattle.std.proofs.Common.{ap, ap₂, ◌∙◌, inl, inr, arith, get_or-take, get_or-drop, drop-drop}
use Rattle.std.proofs.lemmas.List.Edits.{sets}
use Rattle.std.proofs.Math.Seq.{take-set-lt}
use Rattle.std.proofs.lemmas.List.{drop-set-add}
use Rattle.packing.specs.Tabulate.{tabulate_at}
use Rattle.closure_table.specs.Frames.{outside_set, outside_part}
use Rattle.sheet_reading.specs.SheetLimits.{max_nodes}
use Rattle.sheet_types.specs.NodeTable.{
  column,
  nodes_from,
  nodes_of,
  kinds_at,
  first_lows_at,
  first_highs_at,
  seconds_at,
  counts_at,
  threads_at,
}

-- ---- reading
pub column_at : (c : ℕ) (t : List ℕ) (k : ℕ) → k < max_nodes → get_or (column c t) k 0 ≡ get_or t (c + k) 0
column_at c t k l = get_or-take max_nodes (drop c t) k 0 l ∙ get_or-drop c t k 0

pub first_at_lem : (t : List ℕ) (k : ℕ) → k < max_nodes
    → get_or (nodes_of t).firsts k 0 ≡ get_or t (first_lows_at + k) 0 + 256 * get_or t (first_highs_at + k) 0
first_at_lem t k l =
    tabulate_at (λ j. get_or (column first_lows_at t) j 0 + 256 * get_or (column first_highs_at t) j 0) max_nodes k 0 l
    ∙ ap₂ (λ (x y : ℕ). x + 256 * y) (column_at first_lows_at t k l) (column_at first_highs_at t k l)

-- the threads from one place on
pub threads_from_lem : (t : List ℕ) (i : ℕ) → drop i (drop threads_at t) ≡ drop (threads_at + i) t
threads_from_lem t i = drop-drop i threads_at t

-- ---- storing
-- a byte stored outside a column
pub column_other : (c : ℕ) (t : List ℕ) (i x : ℕ) → (i < c) ⊎ (c + max_nodes ≤ i) → column c (set t i x) ≡ column c t
column_other c t i x h = outside_part (outside_set i (i + 1) t i x (omega arith) (omega arith)) c max_nodes (side h)
  where
    side : (i < c) ⊎ (c + max_nodes ≤ i) → (c + max_nodes ≤ i) ⊎ (i + 1 ≤ c)
    side (inl a) = inr (omega arith)
    side (inr a) = inl a

-- a byte stored in a column
pub column_set : (c : ℕ) (t : List ℕ) (k x : ℕ) → k < max_nodes → column c (set t (c + k) x) ≡ set (column c t) k x
column_set c t k x l = ap (take max_nodes) (drop-set-add c t k x) ∙ take-set-lt max_nodes (drop c t) k x l

-- bytes stored behind a place
pub drop_sets : (c : ℕ) (t : List ℕ) (i : ℕ) (xs : List ℕ) → drop c (sets t (c + i) xs) ≡ sets (drop c t) i xs
drop_sets c t i [] = refl
drop_sets c t i (x ∷ xs) =
    let e : suc (c + i) ≡ c + suc i = omega arith in
    ap (λ (j : ℕ). drop c (sets (set t (c + i) x) j xs)) e
    ∙ drop_sets c (set t (c + i) x) (suc i) xs
    ∙ ap (λ (l : List ℕ). sets l (suc i) xs) (drop-set-add c t i x)

-- the nodes stay where their four columns do
pub nodes_same : (v w : List ℕ) → ((c : ℕ) → c + max_nodes ≤ counts_at → column c w ≡ column c v) → nodes_of w ≡ nodes_of v
nodes_same v w h =
    ap (λ (l : List ℕ). nodes_from l (column first_lows_at w) (column first_highs_at w) (column seconds_at w)) (h kinds_at (omega arith))
    ∙ ap (λ (l : List ℕ). nodes_from (column kinds_at v) l (column first_highs_at w) (column seconds_at w)) (h first_lows_at (omega arith))
    ∙ ap (λ (l : List ℕ). nodes_from (column kinds_at v) (column first_lows_at v) l (column seconds_at w)) (h first_highs_at (omega arith))
    ∙ ap (nodes_from (column kinds_at v) (column first_lows_at v) (column first_highs_at v)) (h seconds_at (omega arith))
