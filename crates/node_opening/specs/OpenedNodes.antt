-- The table of opened nodes: the threads of one node more, and what it then holds.
use Rattle.std.specs.Prelude.{◌≡◌, refl, Bool, true, false, cond, List, [], ◌∷◌, ◌++◌, ℕ, ◌+◌, ◌*◌, ◌≤◌, ◌<◌, length, get_or, set, take, drop, eqb, ltb}
use Rattle.std.proofs.Common.{sym, ap, ap₂, ◌∙◌, inl, inr, arith, length-append, length-take, length-drop, length-set, get_or-set_same, get_or-set_other, drop-set-lt, lt-ltb, le-ltb, ne_eqb, ltb-true, ltb-false}
use Rattle.std.proofs.lemmas.List.Edits.{sets}
use Rattle.std.proofs.Math.Seq.{length-sets}
use Rattle.sheet_laws.specs.SheetLimits.{max_nodes, max_threads}
use Rattle.sheet_laws.specs.Sheet.{Node, tell, ask, both, either, opening_of, opened}
use Rattle.sheet_laws.specs.Ranks.{Ranked, rank_of, parts_map}
use Rattle.sheet_laws.specs.Ranks.{LowerNames}
use Rattle.sheet_laws.proofs.OpeningLaws.{ranked_none, ranked_next, opening_same, opening_prefix, opening_next}
use Rattle.sheet_types.specs.HeldSheet.{node_held, opened_in, OpenedHeld}
use Rattle.sheet_types.specs.NodeTable.{Opened, column, nodes_of, opened_of, movables_of, counts_at, movables_at, threads_at, table_end}
use Rattle.sheet_types.specs.NodeTableLaws.{column_other, column_set, drop_sets, nodes_same, threads_from_lem}
use Rattle.sheet_types.specs.Storing.{sets_append, part_sets, stored_part}

-- the number of threads that a node opens to, and what the table then holds of them
pub record OpenedNode : Type 0 where
  pub count : ℕ
  pub opened : Opened

-- the table with these threads for node k
abbrev pub holding : Opened → ℕ → List ℕ → Opened
holding o k ts = record { counts = set o.counts k (length ts); threads = sets o.threads (8 * k) ts }

-- the threads of node k, whose parts the table holds
abbrev pub threads_of : Opened → ℕ → Node → List ℕ
threads_of o k n = opening_of (opened_in o) k n

-- how many they are, and the table with them where it has room
abbrev pub open_node : Opened → ℕ → Node → OpenedNode
open_node o k n =
    let ts = threads_of o k n in
    record { count = length ts; opened = cond (ltb max_threads (length ts)) o (holding o k ts) }

-- each node below k has at most eight threads
pub record Few (o : Opened) (k : ℕ) : Type 0 where
  pub at : (j : ℕ) → j < k → get_or o.counts j 0 ≤ max_threads

-- the threads held for a node are as many as their count where they lie within the table
pub held_length : (o : Opened) (j : ℕ) → 8 * j + get_or o.counts j 0 ≤ length o.threads → length (opened_in o j) ≡ get_or o.counts j 0
held_length o j h = simp (length-take, length-drop) (omega arith)

-- ---- threads stored in the table
-- the table of nodes with these threads for node k
abbrev pub storing : List ℕ → ℕ → List ℕ → List ℕ
storing v k ts = set (sets v (threads_at + 8 * k) ts) (counts_at + k) (length ts)

-- node k, of this kind, is opened: so many threads, which the table has where it has room; the rest of it stays
pub record OpenedAs (v : List ℕ) (k : ℕ) (n : Node) (count : ℕ) (w : List ℕ) : Type 0 where
  pub opened : record { count = count; opened = opened_of w } ≡ open_node (opened_of v) k n
  pub nodes : nodes_of w ≡ nodes_of v
  pub movables : movables_of w ≡ movables_of v
  pub long : length w ≡ length v

module _ (v : List ℕ) (k : ℕ) (ts : List ℕ) (small : k < max_nodes) where
  -- a column that ends before the counts
  column_below : (c : ℕ) → c + max_nodes ≤ counts_at → column c (storing v k ts) ≡ column c v
  column_below c h =
      column_other c (sets v (threads_at + 8 * k) ts) (counts_at + k) (length ts) (inr (omega arith))
      ∙ part_sets v c max_nodes (threads_at + 8 * k) ts (omega arith)

  stored_counts : column counts_at (storing v k ts) ≡ set (column counts_at v) k (length ts)
  stored_counts =
      column_set counts_at (sets v (threads_at + 8 * k) ts) k (length ts) small
      ∙ ap (λ (l : List ℕ). set l k (length ts)) (part_sets v counts_at max_nodes (threads_at + 8 * k) ts (omega arith))

  stored_threads : drop threads_at (storing v k ts) ≡ sets (drop threads_at v) (8 * k) ts
  stored_threads =
      drop-set-lt threads_at (sets v (threads_at + 8 * k) ts) (counts_at + k) (length ts) (omega arith)
      ∙ drop_sets threads_at v (8 * k) ts

  stored_opened : opened_of (storing v k ts) ≡ holding (opened_of v) k ts
  stored_opened = ap₂ (λ (cs ps : List ℕ). record { counts = cs; threads = ps }) stored_counts stored_threads

  pub stored_as : (n : Node) → open_node (opened_of v) k n ≡ record { count = length ts; opened = holding (opened_of v) k ts }
      → OpenedAs v k n (length ts) (storing v k ts)
  stored_as n e =
      record {
        opened = ap (λ (o : Opened). record { count = length ts; opened = o }) stored_opened ∙ sym e;
        nodes = nodes_same v (storing v k ts) column_below;
        movables =
            column_other movables_at (sets v (threads_at + 8 * k) ts) (counts_at + k) (length ts) (inl (omega arith))
            ∙ part_sets v movables_at max_nodes (threads_at + 8 * k) ts (omega arith);
        long = length-set (sets v (threads_at + 8 * k) ts) (counts_at + k) (length ts) ∙ length-sets v (threads_at + 8 * k) ts;
      }

-- ---- the threads of a both, from those of its two nodes
module _ (v : List ℕ) (k p q : ℕ) (room : length v ≡ table_end) (small : k < max_nodes) (few : Few (opened_of v) k) (left : p < k) (right : q < k) where
  both_length : length (opened_in (opened_of v) p ++ opened_in (opened_of v) q) ≡ get_or (opened_of v).counts p 0 + get_or (opened_of v).counts q 0
  both_length =
      let a = few.at p left in
      let b = few.at q right in
      let long : length (drop threads_at v) ≡ 512 = length-drop threads_at v ∙ omega arith in
      length-append (opened_in (opened_of v) p) (opened_in (opened_of v) q)
      ∙ ap₂ (λ (m n : ℕ). m + n) (held_length (opened_of v) p (omega (arith, long))) (held_length (opened_of v) q (omega (arith, long)))

  -- more than the table has room for
  pub both_many : (a : ℕ) → a ≡ get_or (opened_of v).counts p 0 → (b : ℕ) → b ≡ get_or (opened_of v).counts q 0 → max_threads < a + b
      → OpenedAs v k (both p q) (a + b) v
  both_many a ea b eb h =
      let count : a + b ≡ length (opened_in (opened_of v) p ++ opened_in (opened_of v) q) = ap₂ (λ (m n : ℕ). m + n) ea eb ∙ sym both_length in
      let many : ltb max_threads (length (opened_in (opened_of v) p ++ opened_in (opened_of v) q)) ≡ true =
      lt-ltb max_threads (length (opened_in (opened_of v) p ++ opened_in (opened_of v) q)) (omega (arith, count)) in
      record { opened = rw (count, many); nodes = refl; movables = refl; long = refl }

  -- copied one after the other
  pub both_few : (a : ℕ) → a ≡ get_or (opened_of v).counts p 0 → (b : ℕ) → b ≡ get_or (opened_of v).counts q 0 → a + b ≤ max_threads
      → (some : List ℕ) → some ≡ sets v (threads_at + 8 * k) (take a (drop (threads_at + 8 * p) v))
      → (all : List ℕ) → all ≡ sets some (threads_at + 8 * k + a) (take b (drop (threads_at + 8 * q) some))
      → OpenedAs v k (both p q) (a + b) (set all (counts_at + k) (a + b))
  both_few a ea b eb h some es all ee =
      let xs : List ℕ = opened_in (opened_of v) p in
      let ys : List ℕ = opened_in (opened_of v) q in
      let e1 = few.at p left in
      let e2 = few.at q right in
      let long : length (drop threads_at v) ≡ 512 = length-drop threads_at v ∙ omega arith in
      let first : take a (drop (threads_at + 8 * p) v) ≡ xs =
      ap₂ (λ (n : ℕ) (l : List ℕ). take n l) ea (sym (threads_from_lem v (8 * p))) in
      let begun : some ≡ sets v (threads_at + 8 * k) xs = es ∙ ap (sets v (threads_at + 8 * k)) first in
      let second : take b (drop (threads_at + 8 * q) some) ≡ ys =
      ap (λ (l : List ℕ). take b (drop (threads_at + 8 * q) l)) begun
      ∙ part_sets v (threads_at + 8 * q) b (threads_at + 8 * k) xs (omega (arith, eb))
      ∙ ap₂ (λ (n : ℕ) (l : List ℕ). take n l) eb (sym (threads_from_lem v (8 * q))) in
      let size : length xs ≡ a = held_length (opened_of v) p (omega (arith, long)) ∙ sym ea in
      let done : all ≡ sets v (threads_at + 8 * k) (xs ++ ys) =
      ee
      ∙ ap (sets some (threads_at + 8 * k + a)) second
      ∙ ap₂ (λ (l : List ℕ) (n : ℕ). sets l (threads_at + 8 * k + n) ys) begun (sym size)
      ∙ sets_append v (threads_at + 8 * k) xs ys in
      let count : a + b ≡ length (xs ++ ys) = ap₂ (λ (m n : ℕ). m + n) ea eb ∙ sym both_length in
      let fits : ltb max_threads (length (xs ++ ys)) ≡ false = le-ltb max_threads (length (xs ++ ys)) (omega (arith, count)) in
      let stored : OpenedAs v k (both p q) (length (xs ++ ys)) (storing v k (xs ++ ys)) =
      stored_as v k (xs ++ ys) small (both p q) (rw fits) in
      rw (done, count) stored

-- ---- one node, by its kind
module _ (o : Opened) (k kind first second : ℕ) where
  pub opens_stop : kind ≡ 0 → open_node o k (node_held kind first second) ≡ record { count = 0; opened = holding o k [] }
  opens_stop e = rw e

  -- any other kind opens to itself
  pub opens_alone : (kind ≡ 0 → ⊥) → (kind ≡ 3 → ⊥) → open_node o k (node_held kind first second) ≡ record { count = 1; opened = holding o k (k ∷ []) }
  opens_alone a b = rw (ne_eqb kind 0 a, ne_eqb kind 3 b) (go (eqb kind 1) (eqb kind 2))
    where
      go : (s t : Bool) → open_node o k (cond s (tell first) (cond t (ask first second) (either first second))) ≡ record { count = 1; opened = holding o k (k ∷ []) }
      go true t = refl
      go false true = refl
      go false false = refl

-- ---- what the table holds
pub holding_at : (o : Opened) (k : ℕ) (ts : List ℕ) → k < length o.counts → 8 * k + length ts ≤ length o.threads
    → opened_in (holding o k ts) k ≡ ts
holding_at o k ts a b = rw (get_or-set_same o.counts k (length ts) 0 a) (stored_part o.threads (8 * k) ts b)

pub holding_below : (o : Opened) (k : ℕ) (ts : List ℕ) (j : ℕ) → j < k → get_or o.counts j 0 ≤ max_threads
    → opened_in (holding o k ts) j ≡ opened_in o j
holding_below o k ts j a b =
    rw (get_or-set_other o.counts k j (length ts) 0 (omega arith))
    (part_sets o.threads (8 * j) (get_or o.counts j 0) (8 * k) ts (omega arith))

-- the table of these nodes, which are ranked: what each opens to, at most eight threads
pub record OpenedTable (ns : List Node) (o : Opened) : Type 0 where
  pub holds : OpenedHeld ns o
  pub few : Few o (length ns)
  pub ranked : Ranked rank_of ns

pub table_none : (o : Opened) → OpenedTable [] o
table_none o =
    record {
      holds = record { at = λ k l. absurd (omega arith) };
      few = record { at = λ j l. absurd (omega arith) };
      ranked = ranked_none;
    }

-- ---- one node more, which names nodes before it, as nodes are read
module _ (ns : List Node) (o : Opened) (n : Node) (table : OpenedTable ns o) (low : LowerNames (length ns) n) where
  -- its threads, from the table
  pub table_threads : threads_of o (length ns) n ≡ opened (ns ++ (n ∷ [])) (length ns)
  table_threads =
      opening_same (opened_in o) (opened ns) (length ns) n
      (parts_map (λ j. j < length ns) (λ j. opened_in o j ≡ opened ns j) (λ j l. table.holds.at j l) n low)
      ∙ sym (opening_next ns n table.ranked low)

  module _ (small : length ns < 64) (places : length o.counts ≡ 64) (room : length o.threads ≡ 512)
      (fit : length (threads_of o (length ns) n) ≤ max_threads) where
    next_at : (k : ℕ) → k < length (ns ++ (n ∷ [])) → (b : Bool) → ltb k (length ns) ≡ b
        → (opened_in (holding o (length ns) (threads_of o (length ns) n)) k ≡ opened (ns ++ (n ∷ [])) k)
        × (get_or (set o.counts (length ns) (length (threads_of o (length ns) n))) k 0 ≤ max_threads)
    next_at k l true e =
        let ts : List ℕ = threads_of o (length ns) n in
        let below = ltb-true k (length ns) e in
        let a = table.few.at k below in (
          holding_below o (length ns) ts k below a ∙ table.holds.at k below ∙ sym (opening_prefix ns (n ∷ []) table.ranked k below),
          rw (get_or-set_other o.counts (length ns) k (length ts) 0 (omega arith)) a,
        )
    next_at k l false e =
        let ts : List ℕ = threads_of o (length ns) n in
        let m : k ≡ length ns = omega (arith, ltb-false k (length ns) e, length-append ns (n ∷ [])) in
        rw m (
          holding_at o (length ns) ts (omega arith) (omega arith) ∙ table_threads,
          rw (get_or-set_same o.counts (length ns) (length ts) 0 (omega arith)) fit,
        )

    pub table_next : OpenedTable (ns ++ (n ∷ [])) (holding o (length ns) (threads_of o (length ns) n))
    table_next =
        record {
          holds = record { at = λ k l. (next_at k l (ltb k (length ns)) refl).0 };
          few = record { at = λ k l. (next_at k l (ltb k (length ns)) refl).1 };
          ranked = ranked_next ns n table.ranked low;
        }
