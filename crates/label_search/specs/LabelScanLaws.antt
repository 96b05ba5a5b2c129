-- Laws of the scan: what stands in the slice while the sets are tried, and slices that agree where it matters.
use Rattle.std.specs.Prelude.{◌≡◌, Bool, true, false, cond, ℕ, ◌+◌, ◌-◌, ◌/◌, ◌^◌, ◌≤◌, ◌<◌, length, get_or, set, drop}
use Rattle.std.proofs.Math.Path.{refl, ap}
use Rattle.std.proofs.Common.{sym, ◌∙◌, subst, inl, add-one, length-take, length-drop, length-set, drop-cons, take-suc-set, get_or-set_same, get_or-drop, get_or-take, length-take-le, ext_get_or, pow_pos}
use mathlib.Core.List.{List, [], ◌∷◌, ◌++◌, Memᴰ}
use native.Mathlib.Omega.{arith}
use Rattle.std.proofs.Math.ListN.{take}
use Rattle.std.proofs.lemmas.List.{drop-set-add, take-set-le}
use Rattle.std.specs.Int.Bits.{bit_and, bit_or, or_self}
use Rattle.std.proofs.lemmas.Nat.{or_lt}
use Rattle.move_laws.specs.Lists.{arrange, Distinct}
use Rattle.move_laws.specs.AscendingLaws.{arrange_ascends, arrange_keeps, arrange_only, ascends_unique, number_order}
use Rattle.move_laws.specs.Counting.{distinct_length}
use Rattle.number_lists.specs.NumberLists.{numbers_in}
use Rattle.number_lists.specs.Entered.{Sorted}
use Rattle.closure_table.specs.FactSetLaws.{and_within}
use Rattle.closure_table.specs.Stores.{conclusions}
use Rattle.move_laws.specs.Sheet.{Sheet}
use Rattle.move_laws.specs.Moves.{labels}
use Rattle.move_laws.specs.LabelLaws.{label_constraint, labels_few, labels_within, labels_ascend}
use Rattle.closure_table.specs.ClosureTable.{Closures, closures_agree}
use Rattle.closure_table.specs.Frames.{SameOutside, outside_same, outside_again, outside_wider, outside_set}
use Rattle.move_laws.specs.OutsideLaws.{or_above}
use Rattle.label_search.specs.SetsAbove.{Has, has_or}
use Rattle.label_search.specs.AskLabels.{TableOf, LabelsAre, LabelRoom, part, is_next, Found, FoundBelow}
use Rattle.label_search.specs.FoundLabelLaws.{found_none, found_next}

-- ---- slices that agree
-- a part depends on its own numbers only
pub part_agree : (w v : List ℕ) (first end : ℕ) → length v ≡ length w → ((i : ℕ) → first ≤ i → i < end → get_or v i 0 ≡ get_or w i 0)
    → part v first end ≡ part w first end
part_agree w v first end l h =
    ext_get_or 0 (part v first end) (part w first end) (simp (length-take, length-drop, l))
    (λ i k.
    let b : i < end - first = within i k in
    get_or-take (end - first) (drop first v) i 0 b
    ∙ get_or-drop first v i 0
    ∙ h (first + i) (omega arith) (omega arith)
    ∙ sym (get_or-take (end - first) (drop first w) i 0 b ∙ get_or-drop first w i 0))
  where
    within : (i : ℕ) → i < length (part v first end) → i < end - first
    within i k = omega (arith, length-take (end - first) (drop first v))

-- the labels depend on the table only
pub labels_agree : {w : List ℕ} {facts d c : ℕ} {found : List ℕ} (v : List ℕ) → LabelsAre w facts d c found
    → ((i : ℕ) → i < 2 ^ facts → get_or v i 0 ≡ get_or w i 0) → LabelsAre v facts d c found
labels_agree v h e = record { are = λ sheet q t fit. h.are sheet q (closures_agree t (λ i l. sym (e i l))) fit }

pub table_agree : {w : List ℕ} {facts : ℕ} (v : List ℕ) → TableOf facts w
    → ((i : ℕ) → i < 2 ^ facts → get_or v i 0 ≡ get_or w i 0) → TableOf facts v
table_agree v t e = record { rules = t.rules; closures = closures_agree t.closures e; fit = t.fit }

-- ---- what is found, on every sheet with the table
module _ {w : List ℕ} {facts d c k : ℕ} {found : List ℕ} (f : FoundBelow w facts d c k found) (t : TableOf facts w) where
  some : Sheet
  some = record { facts = facts; rules = t.rules; nodes = []; starts = [] }

  on_some : Found some d c k found
  unfolding some
  on_some = f.are (record { facts = facts; rules = t.rules; nodes = []; starts = [] }) refl t.closures t.fit

  pub found_distinct : Distinct found
  found_distinct = on_some.distinct

  pub found_few : length found ≤ 2 ^ facts / 2 + 1
  unfolding some
  found_few =
      omega (arith, distinct_length found (labels some d c) found_distinct (λ a m. (on_some.only a m).0), labels_few some d c)

-- one set more tried
below_next : (w : List ℕ) (facts d c v : ℕ) (found : List ℕ) → Has d v → v < 2 ^ facts → FoundBelow w facts d c v found
    → FoundBelow w facts d c (bit_or d (v + 1)) (cond (is_next w d c found v) (found ++ (get_or w (v - d) 0 ∷ [])) found)
below_next w facts d c v found h l f =
    record {
      are = λ sheet e t fit.
          found_next sheet d c w (subst (λ (n : ℕ). Closures sheet.rules 0 (2 ^ n) w) (sym e) t)
          (subst (λ (n : ℕ). conclusions sheet.rules < 2 ^ n) (sym e) fit) v h (subst (λ (n : ℕ). v < 2 ^ n) (sym e) l)
          found (f.are sheet e t fit);
    }

-- every set tried
pub below_all : (w : List ℕ) (facts d c v : ℕ) (found : List ℕ) → d < 2 ^ facts → 2 ^ facts ≤ v → FoundBelow w facts d c v found
    → FoundBelow w facts d c (2 ^ facts) found
below_all w facts d c v found s l f =
    record {
      are = λ sheet e t fit.
          let g = f.are sheet e t fit in
          record {
            only = λ a m. let o = g.only a m in (o.0, low sheet e a o.0);
            all = λ a m b. g.all a m (omega arith);
            distinct = g.distinct;
          };
    }
  where
    low : (sheet : Sheet) → sheet.facts ≡ facts → (a : ℕ) → Memᴰ a (labels sheet d c) → bit_or d a < 2 ^ facts
    low sheet e a m = or_lt facts d a s (subst (λ (n : ℕ). a < 2 ^ n) e (label_constraint sheet d c m).facts)

-- in ascending order they are the labels
arranged_labels : (w : List ℕ) (facts d c : ℕ) (found : List ℕ) → d < 2 ^ facts → FoundBelow w facts d c (2 ^ facts) found
    → LabelsAre w facts d c (arrange number_order.before found)
arranged_labels w facts d c found s f =
    record {
      are = λ sheet e t fit.
          let g = f.are sheet e t fit in
          ascends_unique number_order (arrange number_order.before found) (labels sheet d c) (arrange_ascends number_order found) (labels_ascend sheet d c)
          (λ a m. (g.only a (arrange_only number_order found m)).0)
          (λ a m. arrange_keeps number_order found
          (g.all a m (or_lt facts d a s (subst (λ (n : ℕ). a < 2 ^ n) e (label_constraint sheet d c m).facts))));
    }

-- ---- the scan
-- a number stored behind those of a list, and counted or not
store_next : (out : List ℕ) (n k a : ℕ) (b : Bool) → k ≡ cond b 1 0 → n + k ≤ length out
    → take (n + k) (set out n a) ≡ cond b (take n out ++ (a ∷ [])) (take n out)
store_next out n k a true q l = rw (q, add-one n) (take-suc-set out n a (omega arith))
store_next out n k a false q l = let e : n + k ≡ n = omega arith in rw e (take-set-le n out n a (omega arith))

-- the sets below v that have all facts of d are tried: the labels among them, n of them, stand from `at` on, and the rest of the
-- slice is as it was
pub record Scanned (facts d c at : ℕ) (w : List ℕ) (v n : ℕ) (u : List ℕ) : Type 0 where
  pub above : d ≤ v
  pub has : Has d v
  pub found : FoundBelow w facts d c v (take n (drop at u))
  pub long : length u ≡ length w
  pub few : n ≤ 2 ^ facts / 2 + 1
  pub same : SameOutside at (at + 2 ^ facts / 2 + 2) w u

module _ (facts d c at : ℕ) (w : List ℕ) (r : LabelRoom facts d at w) where
  pub scanned_none : Scanned facts d c at w d 0 w
  scanned_none =
      record {
        above = omega arith;
        has = or_self d;
        found = record { are = λ sheet e t fit. found_none sheet d c };
        long = refl;
        few = omega arith;
        same = outside_same at (at + 2 ^ facts / 2 + 2) w;
      }

  pub scanned_next : (v n k : ℕ) (u : List ℕ) → Scanned facts d c at w v n u → v < 2 ^ facts
      → k ≡ cond (is_next u d c (take n (drop at u)) v) 1 0 → k ≤ 1
      → Scanned facts d c at w (bit_or d (v + 1)) (n + k) (set u (at + n) (get_or u (v - d) 0))
  scanned_next v n k u h l q one =
      record {
        above = or_above d (v + 1);
        has = has_or d (v + 1);
        found = found;
        long = same.long;
        few = omega (arith, counted, found_few found r.table);
        same = same;
      }
    where
      own : get_or u (v - d) 0 ≡ get_or w (v - d) 0
      own = h.same.at (v - d) (inl (omega (arith, r.behind)))

      joined : get_or u v 0 ≡ get_or w v 0
      joined = h.same.at v (inl (omega (arith, r.behind)))

      tail : n + k ≤ length (drop at u)
      tail = simp length-drop (omega (arith, r.room, h.few, h.long))

      at_w : is_next u d c (take n (drop at u)) v ≡ is_next w d c (take n (drop at u)) v
      at_w = rw (own, joined)

      stored : take (n + k) (drop at (set u (at + n) (get_or u (v - d) 0)))
          ≡ cond (is_next w d c (take n (drop at u)) v) (take n (drop at u) ++ (get_or w (v - d) 0 ∷ [])) (take n (drop at u))
      stored =
          ap (λ (x : ℕ). take (n + k) (drop at (set u (at + n) x))) own
          ∙ ap (take (n + k)) (drop-set-add at u n (get_or w (v - d) 0))
          ∙ store_next (drop at u) n k (get_or w (v - d) 0) (is_next w d c (take n (drop at u)) v) (q ∙ ap (λ (b : Bool). cond b 1 0) at_w) tail

      found : FoundBelow w facts d c (bit_or d (v + 1)) (take (n + k) (drop at (set u (at + n) (get_or u (v - d) 0))))
      found =
          subst (λ (l : List ℕ). FoundBelow w facts d c (bit_or d (v + 1)) l) (sym stored)
          (below_next w facts d c v (take n (drop at u)) h.has l h.found)

      counted : length (take (n + k) (drop at (set u (at + n) (get_or u (v - d) 0)))) ≡ n + k
      counted =
          length-take-le (n + k) (drop at (set u (at + n) (get_or u (v - d) 0)))
          (rw (drop-set-add at u n (get_or u (v - d) 0)) (omega (arith, tail, length-set (drop at u) n (get_or u (v - d) 0))))

      same : SameOutside at (at + 2 ^ facts / 2 + 2) w (set u (at + n) (get_or u (v - d) 0))
      same = outside_again h.same (outside_set at (at + 2 ^ facts / 2 + 2) u (at + n) (get_or u (v - d) 0) (omega arith) (omega (arith, h.few)))

  -- ---- the labels found, put in order
  module _ (n : ℕ) (u : List ℕ) (few : n ≤ 2 ^ facts / 2 + 1) where
    numbers_found : (x : List ℕ) → numbers_in x at (at + n) ≡ take n (drop at x)
    unfolding numbers_in
    numbers_found x = let e : at + n - at ≡ n = omega arith in ap (λ (m : ℕ). take m (drop at x)) e

    pub numbers_distinct : FoundBelow w facts d c (2 ^ facts) (take n (drop at u)) → Distinct (numbers_in u at (at + n))
    numbers_distinct f = subst Distinct (sym (numbers_found u)) (found_distinct f r.table)

    module _ (v : List ℕ) (s : Sorted u at (at + n) v) where
      pub sorted_labels : FoundBelow w facts d c (2 ^ facts) (take n (drop at u)) → LabelsAre w facts d c (take n (drop at v))
      sorted_labels f =
          subst (λ (l : List ℕ). LabelsAre w facts d c l)
          (sym (sym (numbers_found v) ∙ s.numbers ∙ ap (arrange number_order.before) (numbers_found u)))
          (arranged_labels w facts d c (take n (drop at u)) r.store f)

      pub sorted_same : SameOutside at (at + 2 ^ facts / 2 + 2) w u → SameOutside at (at + 2 ^ facts / 2 + 2) w v
      sorted_same h =
          outside_again h (outside_wider s.outside at (at + 2 ^ facts / 2 + 2) (omega arith) (omega arith))

  -- where c is inside d, the closure of the empty set alone
  pub least_alone : bit_and c d ≡ c → LabelsAre w facts d c (take 1 (drop at (set w at (get_or w 0 0))))
  least_alone e =
      record {
        are = λ sheet q t fit.
            alone ∙ ap (λ (x : ℕ). x ∷ []) (t.at 0 (omega arith) (pow_pos facts))
            ∙ sym (labels_within sheet (subst (λ (n : ℕ). conclusions sheet.rules < 2 ^ n) (sym q) fit) d c (and_within c d e));
      }
    where
      long : at < length w
      long = omega (arith, r.room)

      alone : take 1 (drop at (set w at (get_or w 0 0))) ≡ get_or w 0 0 ∷ []
      alone =
          ap (take 1) (drop-cons (set w at (get_or w 0 0)) at 0 (simp length-set long))
          ∙ ap (λ (x : ℕ). x ∷ []) (get_or-set_same w at (get_or w 0 0) 0 long)
