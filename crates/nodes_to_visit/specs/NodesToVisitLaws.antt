-- Laws of pending entries: an entry stored after the others, entries in a slice that is changed elsewhere, the last entry; and a
-- weight that falls when an entry is taken out and at most two entries of nodes of a lower rank are put in its place.
use Rattle.std.specs.Prelude.{◌≡◌, refl, Bool, true, false, List, [], ◌∷◌, ◌++◌, ℕ, ◌+◌, ◌*◌, ◌^◌, ◌≤◌, ◌<◌, get_or, eqb}
use Rattle.std.proofs.Common.{◌∙◌, inl, arith, add-one, pow-suc, eqb-true}
use Rattle.std.proofs.Math.Nat.{pow-le-pow_right}
use Rattle.std.proofs.lemmas.Bool.{eqb-false}
use Rattle.packing.specs.Tabulate.{tabulate_next, tabulate_same}
use Rattle.threads_beside.specs.NodeMoves.{NodeBeside}
use Rattle.packing.specs.Packing.{unpacked, Packed}
use Rattle.threads_beside.specs.ThreadsBeside.{placed}
use Rattle.nodes_to_visit.specs.NodesToVisit.{PendingPacked, pending_one, pending_in, Pushed}
use Rattle.work_layout.specs.WorkLayout.{pending_at}

-- ---- equal numbers stand for one node with threads beside it
pub packed_same : (a b c x y z : ℕ) → x ≡ a → y ≡ b → z ≡ c → Packed a b c → Packed x y z
packed_same a b c x y z e f g p = rw (e, f, g) p

pub placed_same : (a b c x y z : ℕ) → x ≡ a → y ≡ b → z ≡ c → placed (unpacked x y z) ≡ placed (unpacked a b c)
placed_same a b c x y z e f g = rw (e, f, g)

-- ---- slices that agree on the places of the first n entries have the same first n entries
module _ (v w : List ℕ) (n : ℕ) (same : (i : ℕ) → pending_at ≤ i → i < pending_at + 3 * n → get_or w i 0 ≡ get_or v i 0) where
  pending_one_same : (i : ℕ) → i < n → pending_one w i ≡ pending_one v i
  pending_one_same i l =
      let p : ℕ = pending_at + 3 * i in
      placed_same (get_or v p 0) (get_or v (p + 1) 0) (get_or v (p + 2) 0) (get_or w p 0) (get_or w (p + 1) 0) (get_or w (p + 2) 0)
      (same p (omega arith) (omega arith)) (same (p + 1) (omega arith) (omega arith)) (same (p + 2) (omega arith) (omega arith))

  pub pending_same : pending_in w n ≡ pending_in v n
  pending_same = tabulate_same (pending_one w) (pending_one v) n pending_one_same

  pub pending_same_packed : (i : ℕ) → i < n → PendingPacked v i → PendingPacked w i
  pending_same_packed i l h =
      let p : ℕ = pending_at + 3 * i in
      packed_same (get_or v p 0) (get_or v (p + 1) 0) (get_or v (p + 2) 0) (get_or w p 0) (get_or w (p + 1) 0) (get_or w (p + 2) 0)
      (same p (omega arith) (omega arith)) (same (p + 1) (omega arith) (omega arith)) (same (p + 2) (omega arith) (omega arith)) h

-- ---- the last entry
pub pending_pop : (w : List ℕ) (n : ℕ) → pending_in w (n + 1) ≡ pending_in w n ++ (pending_one w n ∷ [])
pending_pop w n = tabulate_next (pending_one w) n

-- ---- an entry stored after the others
-- the entries before it are as they were
pub pushed_below : {v w : List ℕ} {n : ℕ} {e : NodeBeside} → Pushed v n e w → pending_in w n ≡ pending_in v n
pushed_below {v} {w} {n} {e} p = pending_same v w n (λ i a b. p.outside.at i (inl b))

pub pushed_all : {v w : List ℕ} {n : ℕ} {e : NodeBeside} → Pushed v n e w → pending_in w (n + 1) ≡ pending_in v n ++ (e ∷ [])
pushed_all {v} {w} {n} {e} p = pending_pop w n ∙ rw (pushed_below p, p.stored)

pub pushed_packed : {v w : List ℕ} {n : ℕ} {e : NodeBeside} → Pushed v n e w → (i : ℕ) → i < n → PendingPacked v i → PendingPacked w i
pushed_packed {v} {w} {n} {e} p i l h = pending_same_packed v w n (λ j a b. p.outside.at j (inl b)) i l h

-- with it, one entry more has numbers that stand for a node
pub pushed_packed_next : {v w : List ℕ} {n : ℕ} {e : NodeBeside} → Pushed v n e w → ((i : ℕ) → i < n → PendingPacked v i)
    → (i : ℕ) → i < n + 1 → PendingPacked w i
pushed_packed_next {v} {w} {n} {e} p h i l = go (eqb i n) refl
  where
    go : (b : Bool) → eqb i n ≡ b → PendingPacked w i
    go true q =
        let r : i ≡ n = eqb-true i n q in
        rw r p.packed
    go false q =
        let r : i < n = omega (arith, eqb-false i n q) in
        pushed_packed p i r (h i r)

-- ---- a weight
-- the sum of 3 ^ (r + 1) over the ranks r of the entries' nodes
unfoldable pub weight : (ℕ → ℕ) → List NodeBeside → ℕ
weight rank [] = 0
weight rank (e ∷ es) = 3 ^ (rank e.node + 1) + weight rank es

pub weight_none : (rank : ℕ → ℕ) → weight rank [] ≡ 0
unfolding weight
weight_none rank = refl

pub weight_append : (rank : ℕ → ℕ) (xs ys : List NodeBeside) → weight rank (xs ++ ys) ≡ weight rank xs + weight rank ys
unfolding weight
weight_append rank [] ys = omega arith
weight_append rank (x ∷ xs) ys =
    sum (3 ^ (rank x.node + 1)) (weight rank xs) (weight rank ys) (weight rank (xs ++ ys)) (weight_append rank xs ys)
  where
    sum : (a b c d : ℕ) → d ≡ b + c → a + d ≡ a + b + c
    sum a b c d e = omega arith

-- one entry more
pub weight_next : (rank : ℕ → ℕ) (es : List NodeBeside) (e : NodeBeside)
    → weight rank (es ++ (e ∷ [])) ≡ weight rank es + 3 ^ (rank e.node + 1)
unfolding weight
weight_next rank es e = weight_append rank es (e ∷ []) ∙ sum (weight rank es) (3 ^ (rank e.node + 1))
  where
    sum : (a b : ℕ) → a + (b + 0) ≡ a + b
    sum a b = omega arith

-- a power of 3 is not 0
power_positive : (k : ℕ) → 0 < 3 ^ k
power_positive k = pow-le-pow_right {n = 3} (omega arith) {i = 0} {j = k} (omega arith)

-- two nodes of lower ranks weigh less than one node
pub weight_parts : (p q k : ℕ) → p < k → q < k → 3 ^ (p + 1) + 3 ^ (q + 1) < 3 ^ (k + 1)
weight_parts p q k h l =
    rw (add-one k, pow-suc 3 k)
    (less (3 ^ (p + 1)) (3 ^ (q + 1)) (3 ^ k) (pow-le-pow_right {n = 3} (omega arith) {i = p + 1} {j = k} (omega arith))
    (pow-le-pow_right {n = 3} (omega arith) {i = q + 1} {j = k} (omega arith)) (power_positive k))
  where
    less : (a b c : ℕ) → a ≤ c → b ≤ c → 0 < c → a + b < c * 3
    less a b c u v w = omega arith
