-- One node stored in the table: its two numbers of a byte, its number of two bytes, its mark; and what the second field can be.
use Rattle.std.specs.Prelude.{◌≡◌, ◌⊎◌, List, ℕ, ◌+◌, ◌*◌, ◌/◌, ◌%◌, ◌≤◌, ◌<◌, length, get_or, set, drop, eqb, ltb}
use Rattle.std.proofs.Common.{sym, ap, ap₂, ◌∙◌, inl, inr, arith, length-take, length-drop, length-set, drop-set-lt, get_or-set_same, get_or-set_other, ext_get_or, eqb-true, ltb-true, ltb-false}
use Rattle.std.proofs.lemmas.Bool.{eqb-false}
use Rattle.sheet_types.specs.TestLaws.{Tested, passes, fails, tested}
use Rattle.sheet_types.specs.Tabulate.{tabulate_at, tabulate_length}
use Rattle.set_closure.specs.SheetLimits.{max_nodes}
use Rattle.sheet_types.specs.Reading.{got, second_at}
use Rattle.sheet_types.specs.Sheet.{Node}
use Rattle.node_opening.specs.Ranks.{parts_map}
use Rattle.node_opening.specs.Ranks.{LowerNames}
use Rattle.sheet_fields.specs.FieldLaws.{second_unused, second_any, second_below, unused_gets, below_gets}
use Rattle.sheet_types.specs.HeldSheet.{node_held}
use Rattle.sheet_types.specs.NodeTable.{column, paired, nodes_from, nodes_of, opened_of, movables_of, kinds_at, first_lows_at, first_highs_at, seconds_at, counts_at, movables_at, threads_at, table_end}
use Rattle.sheet_types.specs.NodeTableLaws.{column_other, column_set}
use Rattle.movable_nodes.specs.Movability.{mark_for}
use Rattle.node_reader.specs.NodesFound.{Room, NodePut}

-- a second field is 0, or the number of a node
pub second_low : (kind nodes number : ℕ) (s : List ℕ) (at : ℕ) {v next : ℕ} → second_at kind nodes number s at ≡ got v next → (v < nodes) ⊎ (v ≤ number)
second_low kind nodes number s at {v} {next} e = go (tested (ltb kind 2)) (tested (eqb kind 2))
  where
    go : Tested (ltb kind 2) → Tested (eqb kind 2) → (v < nodes) ⊎ (v ≤ number)
    go (passes t) x =
        let low = ltb-true kind 2 t in
        inr (omega (arith, ((unused_gets s at).holds v next (sym (second_unused kind nodes number s at (omega arith)) ∙ e)).1))
    go (fails t) (passes x) = inl ((below_gets s at nodes).holds v next (sym (second_any kind nodes number s at (eqb-true kind 2 x)) ∙ e)).1
    go (fails t) (fails x) =
        let a = ltb-false kind 2 t in
        let b = eqb-false kind 2 x in
        let low = ((below_gets s at number).holds v next (sym (second_below kind nodes number s at (omega arith)) ∙ e)).1 in
        inr (omega (arith, low))

-- a byte holds it
pub second_byte : {x n i : ℕ} → (x < n) ⊎ (x ≤ i) → n ≤ max_nodes → i < max_nodes → x < 256
second_byte (inl a) b c = omega arith
second_byte (inr a) b c = omega arith

-- a node that names nodes before it names nodes of the sheet
pub lower_all : (i : ℕ) (v : Node) → i < max_nodes → LowerNames i v → LowerNames max_nodes v
lower_all i v small h = parts_map (λ p. p < i) (λ p. p < max_nodes) (λ p l. omega arith) v h

-- the lengths of what a table holds
pub room_of : (t : List ℕ) → length t ≡ table_end → Room (nodes_of t) (opened_of t)
room_of t e =
    record {
      kinds = wide kinds_at (omega arith);
      firsts = tabulate_length (λ k. get_or (column first_lows_at t) k 0 + 256 * get_or (column first_highs_at t) k 0) max_nodes;
      seconds = wide seconds_at (omega arith);
      counts = wide counts_at (omega arith);
      threads = length-drop threads_at t ∙ omega arith;
    }
  where
    wide : (c : ℕ) → c + max_nodes ≤ table_end → length (column c t) ≡ max_nodes
    wide c h = simp (length-take, length-drop) (omega arith)

-- a number of two bytes stored
paired_set : (lows highs : List ℕ) (k x : ℕ) → k < max_nodes → length lows ≡ max_nodes → length highs ≡ max_nodes
    → paired (set lows k (x % 256)) (set highs k (x / 256)) ≡ set (paired lows highs) k x
paired_set lows highs k x small a b =
    ext_get_or 0 (paired (set lows k (x % 256)) (set highs k (x / 256))) (set (paired lows highs) k x)
    (long (set lows k (x % 256)) (set highs k (x / 256)) ∙ sym (length-set (paired lows highs) k x ∙ long lows highs))
    (λ i l. go i (omega (arith, long (set lows k (x % 256)) (set highs k (x / 256)))) (tested (eqb i k)))
  where
    long : (ls hs : List ℕ) → length (paired ls hs) ≡ max_nodes
    long ls hs = tabulate_length (λ j. get_or ls j 0 + 256 * get_or hs j 0) max_nodes

    at : (ls hs : List ℕ) (i : ℕ) → i < max_nodes → get_or (paired ls hs) i 0 ≡ get_or ls i 0 + 256 * get_or hs i 0
    at ls hs i l = tabulate_at (λ j. get_or ls j 0 + 256 * get_or hs j 0) max_nodes i 0 l

    go : (i : ℕ) → i < max_nodes → Tested (eqb i k)
        → get_or (paired (set lows k (x % 256)) (set highs k (x / 256))) i 0 ≡ get_or (set (paired lows highs) k x) i 0
    go i l (passes t) =
        let e : i ≡ k = eqb-true i k t in
        let whole : x % 256 + 256 * (x / 256) ≡ x = omega arith in
        at (set lows k (x % 256)) (set highs k (x / 256)) i l
        ∙ ap (λ (j : ℕ). get_or (set lows k (x % 256)) j 0 + 256 * get_or (set highs k (x / 256)) j 0) e
        ∙ ap₂ (λ (m n : ℕ). m + 256 * n) (get_or-set_same lows k (x % 256) 0 (omega arith)) (get_or-set_same highs k (x / 256) 0 (omega arith))
        ∙ whole
        ∙ sym (ap (λ (j : ℕ). get_or (set (paired lows highs) k x) j 0) e ∙ get_or-set_same (paired lows highs) k x 0 (omega (arith, long lows highs)))
    go i l (fails t) =
        let ne = eqb-false i k t in
        at (set lows k (x % 256)) (set highs k (x / 256)) i l
        ∙ ap₂ (λ (m n : ℕ). m + 256 * n) (get_or-set_other lows k i (x % 256) 0 ne) (get_or-set_other highs k i (x / 256) 0 ne)
        ∙ sym (get_or-set_other (paired lows highs) k i x 0 ne ∙ at lows highs i l)

-- ---- the five bytes of node k
abbrev pub node_stored : List ℕ → ℕ → ℕ → ℕ → ℕ → ℕ → List ℕ
node_stored v k kind first second mark =
    set (set (set (set (set v (kinds_at + k) kind) (first_lows_at + k) (first % 256)) (first_highs_at + k) (first / 256)) (seconds_at + k) second) (movables_at + k) mark

module _ (v : List ℕ) (k kind first second mark : ℕ) (small : k < max_nodes) (room : length v ≡ table_end) where
  -- a byte of node k in another column
  apart : (c d : ℕ) (t : List ℕ) (x : ℕ) → (c + max_nodes ≤ d) ⊎ (d + max_nodes ≤ c) → column c (set t (d + k) x) ≡ column c t
  apart c d t x (inl h) = column_other c t (d + k) x (inr (omega arith))
  apart c d t x (inr h) = column_other c t (d + k) x (inl (omega arith))

  abbrev one : List ℕ
  one = set v (kinds_at + k) kind

  abbrev two : List ℕ
  two = set one (first_lows_at + k) (first % 256)

  abbrev three : List ℕ
  three = set two (first_highs_at + k) (first / 256)

  abbrev four : List ℕ
  four = set three (seconds_at + k) second

  stored_kinds : column kinds_at (node_stored v k kind first second mark) ≡ set (column kinds_at v) k kind
  stored_kinds =
      apart kinds_at movables_at four mark (inl (omega arith))
      ∙ apart kinds_at seconds_at three second (inl (omega arith))
      ∙ apart kinds_at first_highs_at two (first / 256) (inl (omega arith))
      ∙ apart kinds_at first_lows_at one (first % 256) (inl (omega arith))
      ∙ column_set kinds_at v k kind small

  stored_lows : column first_lows_at (node_stored v k kind first second mark) ≡ set (column first_lows_at v) k (first % 256)
  stored_lows =
      apart first_lows_at movables_at four mark (inl (omega arith))
      ∙ apart first_lows_at seconds_at three second (inl (omega arith))
      ∙ apart first_lows_at first_highs_at two (first / 256) (inl (omega arith))
      ∙ column_set first_lows_at one k (first % 256) small
      ∙ ap (λ (l : List ℕ). set l k (first % 256)) (apart first_lows_at kinds_at v kind (inr (omega arith)))

  stored_highs : column first_highs_at (node_stored v k kind first second mark) ≡ set (column first_highs_at v) k (first / 256)
  stored_highs =
      apart first_highs_at movables_at four mark (inl (omega arith))
      ∙ apart first_highs_at seconds_at three second (inl (omega arith))
      ∙ column_set first_highs_at two k (first / 256) small
      ∙ ap (λ (l : List ℕ). set l k (first / 256))
      (apart first_highs_at first_lows_at one (first % 256) (inr (omega arith)) ∙ apart first_highs_at kinds_at v kind (inr (omega arith)))

  stored_seconds : column seconds_at (node_stored v k kind first second mark) ≡ set (column seconds_at v) k second
  stored_seconds =
      apart seconds_at movables_at four mark (inl (omega arith))
      ∙ column_set seconds_at three k second small
      ∙ ap (λ (l : List ℕ). set l k second)
      (apart seconds_at first_highs_at two (first / 256) (inr (omega arith))
      ∙ apart seconds_at first_lows_at one (first % 256) (inr (omega arith))
      ∙ apart seconds_at kinds_at v kind (inr (omega arith)))

  -- a column above the four
  column_above : (c : ℕ) → seconds_at + max_nodes ≤ c → column c four ≡ column c v
  column_above c h =
      apart c seconds_at three second (inr h)
      ∙ apart c first_highs_at two (first / 256) (inr (omega arith))
      ∙ apart c first_lows_at one (first % 256) (inr (omega arith))
      ∙ apart c kinds_at v kind (inr (omega arith))

  threads_above : drop threads_at (node_stored v k kind first second mark) ≡ drop threads_at v
  threads_above =
      drop-set-lt threads_at four (movables_at + k) mark (omega arith)
      ∙ drop-set-lt threads_at three (seconds_at + k) second (omega arith)
      ∙ drop-set-lt threads_at two (first_highs_at + k) (first / 256) (omega arith)
      ∙ drop-set-lt threads_at one (first_lows_at + k) (first % 256) (omega arith)
      ∙ drop-set-lt threads_at v (kinds_at + k) kind (omega arith)

  pub node_put : mark ≡ mark_for (movables_of v) (node_held kind first second) → NodePut v k kind first second (node_stored v k kind first second mark)
  node_put e =
      let wide = room_of v room in
      let l1 : length (column first_lows_at v) ≡ max_nodes = simp (length-take, length-drop) (omega arith) in
      let l2 : length (column first_highs_at v) ≡ max_nodes = simp (length-take, length-drop) (omega arith) in
      record {
        nodes =
            ap (λ (l : List ℕ). nodes_from l (column first_lows_at w) (column first_highs_at w) (column seconds_at w)) stored_kinds
            ∙ ap (λ (l : List ℕ). nodes_from (set (column kinds_at v) k kind) l (column first_highs_at w) (column seconds_at w)) stored_lows
            ∙ ap (λ (l : List ℕ). nodes_from (set (column kinds_at v) k kind) (set (column first_lows_at v) k (first % 256)) l (column seconds_at w)) stored_highs
            ∙ ap (nodes_from (set (column kinds_at v) k kind) (set (column first_lows_at v) k (first % 256)) (set (column first_highs_at v) k (first / 256))) stored_seconds
            ∙ ap (λ (l : List ℕ). record { kinds = set (column kinds_at v) k kind; firsts = l; seconds = set (column seconds_at v) k second })
            (paired_set (column first_lows_at v) (column first_highs_at v) k first small l1 l2);
        opened =
            ap₂ (λ (cs ts : List ℕ). record { counts = cs; threads = ts })
            (apart counts_at movables_at four mark (inl (omega arith)) ∙ column_above counts_at (omega arith)) threads_above;
        marks =
            column_set movables_at four k mark small
            ∙ ap₂ (λ (l : List ℕ) (m : ℕ). set l k m) (column_above movables_at (omega arith)) e;
        long =
            length-set four (movables_at + k) mark
            ∙ length-set three (seconds_at + k) second
            ∙ length-set two (first_highs_at + k) (first / 256)
            ∙ length-set one (first_lows_at + k) (first % 256)
            ∙ length-set v (kinds_at + k) kind;
      }
    where
      w : List ℕ
      w = node_stored v k kind first second mark
