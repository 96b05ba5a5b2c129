-- The sets found are labels, and all of them: what is found by trying the sets that have all facts of d in ascending order.
use Rattle.std.specs.Prelude.{◌≡◌, ◌⊎◌, Bool, cond, not, ℕ, zero, suc, ◌+◌, ◌-◌, ◌^◌, ◌≤◌, ◌<◌, length, get_or, take, drop, eqb, ltb, Some, None}
use Rattle.std.proofs.Math.Path.{refl, ap}
use Rattle.std.proofs.Common.{sym, ◌∙◌, subst, inl, inr, ⊎_elim, arith, length-drop, get_or-drop, eq-eqb, eqb-true, ltb-true, ltb-false}
use Rattle.std.proofs.Math.Bool.{true, false}
use mathlib.Core.List.Memᴰ
use mathlib.Core.List.{List, [], ◌∷◌, ◌++◌, Memᴰ}
use Rattle.std.specs.Int.Bits.{bit_or}
use Rattle.std.proofs.lemmas.Bool.{not-true}
use Rattle.move_laws.specs.TestLaws.{true_false, and_left, and_right, and_intro, or_fails, or_left, or_right, not_passes}
use Rattle.move_laws.specs.Lists.{any, no_elements, one_more}
use Rattle.move_laws.specs.Members.{any_yes, any_mem}
use Rattle.move_laws.specs.Counting.{distinct_append}
use Rattle.closure_table.specs.FactSets.{Within}
use Rattle.closure_table.specs.FactSetLaws.{within_trans, within_or_left, within_or_right, or_least, within_le}
use Rattle.closure_table.specs.Stores.{Constraint, conclusions, closure, join, includes}
use Rattle.move_laws.specs.StoreLaws.{includes_within, within_includes, closure_constraint}
use Rattle.move_laws.specs.Sheet.{Sheet}
use Rattle.move_laws.specs.Moves.{labels}
use Rattle.move_laws.specs.LabelLaws.{label_constraint, label_makes_true, label_below, label_minimal}
use Rattle.closure_table.specs.ClosureTable.{Closures}
use Rattle.move_laws.specs.OutsideLaws.{or_above}
use Rattle.label_search.specs.SetsAbove.{Has, above_next, next_least, has_or}
use Rattle.label_search.specs.LabelOrder.{label_outside}
use Rattle.label_tests.specs.LabelTests.{InsideAt, passes_by}
use Rattle.label_search.specs.AskLabels.{Found, is_next}

-- ---- a test over the sets found
module _ (p : ℕ → Bool) where
  any_none : (xs : List ℕ) (n : ℕ) → ((i : ℕ) → i < n → i < length xs → p (get_or xs i 0) ≡ false) → any p (take n xs) ≡ false
  any_none [] zero h = refl
  any_none [] (suc n) h = refl
  any_none (x ∷ xs) zero h = refl
  any_none (x ∷ xs) (suc n) h = or_fails (h 0 (omega arith) (omega arith)) (any_none xs n (λ i l k. h (suc i) (omega arith) (omega arith)))

  any_hit : (xs : List ℕ) (n i : ℕ) → i < n → n ≤ length xs → p (get_or xs i 0) ≡ true → any p (take n xs) ≡ true
  any_hit [] n i h l k = absurd (omega arith)
  any_hit (x ∷ xs) zero i h l k = absurd (omega arith)
  any_hit (x ∷ xs) (suc n) zero h l k = or_left (any p (take n xs)) k
  any_hit (x ∷ xs) (suc n) (suc i) h l k = or_right (p x) (any_hit xs n i (omega arith) (omega arith) k)

module _ (w : List ℕ) (at n a : ℕ) where
  -- no set of the part is inside a
  pub inside_none : InsideAt w at (at + n) a None → any (λ b. includes a b) (take n (drop at w)) ≡ false
  inside_none h =
      any_none (λ b. includes a b) (drop at w) n
      (λ i l k. ap (λ (x : ℕ). includes a x) (get_or-drop at w i 0) ∙ h (at + i) (omega arith) (omega arith))

  -- one is
  pub inside_some : (r : ℕ) → InsideAt w at (at + n) a (Some r) → at + n ≤ length w → any (λ b. includes a b) (take n (drop at w)) ≡ true
  inside_some r h l =
      let q : at + (r - at) ≡ r = omega (arith, h.0) in
      any_hit (λ b. includes a b) (drop at w) n (r - at) (omega (arith, h.0, h.1)) (simp length-drop (omega arith))
      (ap (λ (x : ℕ). includes a x) (get_or-drop at w (r - at) 0 ∙ ap (λ (k : ℕ). get_or w k 0) q) ∙ h.2)

-- ---- one set more tried
-- nothing is below d
pub found_none : (sheet : Sheet) (d c : ℕ) → Found sheet d c d []
found_none sheet d c =
    record { only = λ a m. absurd (Memᴰ.not-nil m); all = λ a m l. absurd (omega (arith, or_above d a)); distinct = no_elements }

module _ (sheet : Sheet) (d c : ℕ) (w : List ℕ) (table : Closures sheet.rules 0 (2 ^ sheet.facts) w)
    (fit : conclusions sheet.rules < 2 ^ sheet.facts) (v : ℕ) (has : Has d v) (low : v < 2 ^ sheet.facts) where
  -- the closure of what v has outside d
  own : ℕ
  own = get_or w (v - d) 0

  own_closure : own ≡ closure sheet.rules (v - d)
  unfolding own
  own_closure = table.at (v - d) (omega arith) (omega arith)

  own_constraint : Constraint sheet.facts sheet.rules own
  own_constraint =
      subst (Constraint sheet.facts sheet.rules) (sym own_closure) (closure_constraint sheet.rules sheet.facts (v - d) (omega arith) fit)

  -- a label whose union with d is v
  label_own : {a : ℕ} → Memᴰ a (labels sheet d c) → bit_or d a ≡ v → own ≡ a
  label_own m e = own_closure ∙ ap (λ (x : ℕ). closure sheet.rules (x - d)) (sym e) ∙ label_outside sheet d c fit m

  -- the joined store, where own and d make v
  joined : bit_or d own ≡ v → get_or w v 0 ≡ join sheet.rules d own
  joined e = table.at v (omega arith) low ∙ ap (closure sheet.rules) (sym e)

  module _ (found : List ℕ) (f : Found sheet d c v found) where
    -- where v passes and no label found is inside own, own is a label
    own_label : bit_or d own ≡ v → Within c (get_or w v 0) → any (λ b. includes own b) found ≡ false → Memᴰ own (labels sheet d c)
    own_label e makes none =
        let x = label_below sheet d c own own_constraint (subst (Within c) (joined e) makes) in
        go x.0 x.1 x.2 (ltb (bit_or d x.0) v) refl
      where
        go : (a : ℕ) → Memᴰ a (labels sheet d c) → Within a own → (b : Bool) → ltb (bit_or d a) v ≡ b → Memᴰ own (labels sheet d c)
        go a m i true l =
            true_false (any (λ b. includes own b) found)
            (any_mem (λ b. includes own b) found (f.all a m (ltb-true (bit_or d a) v l)) (within_includes i)) none
        go a m i false l =
            let up : Within (bit_or d a) (bit_or d own) = or_least (within_or_left d own) (within_trans i (within_or_right d own)) in
            let same : bit_or d a ≡ v = omega (arith, ltb-false (bit_or d a) v l, within_le up, e) in
            subst (λ (x : ℕ). Memᴰ x (labels sheet d c)) (sym (label_own m same)) m

    -- where some label's union with d is v, v passes, and no label found is inside own
    label_next : {a : ℕ} → Memᴰ a (labels sheet d c) → bit_or d a ≡ v → is_next w d c found v ≡ true
    unfolding own
    label_next {a} m e =
        and_intro (and_intro (eq-eqb (bit_or d own) v closes) (within_includes makes)) (not_passes (none (any (λ b. includes own b) found) refl))
      where
        closes : bit_or d own ≡ v
        closes = ap (bit_or d) (label_own m e) ∙ e

        makes : Within c (get_or w v 0)
        makes = subst (Within c) (sym (table.at v (omega arith) low ∙ ap (closure sheet.rules) (sym e))) (label_makes_true sheet d c m)

        none : (b : Bool) → any (λ b. includes own b) found ≡ b → any (λ b. includes own b) found ≡ false
        none false q = q
        none true q =
            let y = any_yes (λ b. includes own b) found q in
            let l = f.only y.0 y.1 in
            let same : y.0 ≡ a =
            label_minimal sheet d c m y.0 (label_constraint sheet d c l.0) (label_makes_true sheet d c l.0)
            (subst (Within y.0) (label_own m e) (includes_within own y.0 y.2)) in
            absurd (omega (arith, l.1, ap (bit_or d) same, e))

    -- a label found next is one whose union is below v, or v
    next_union : (a : ℕ) → bit_or d a < bit_or d (v + 1) → (bit_or d a < v) ⊎ (bit_or d a ≡ v)
    next_union a l = go (ltb (bit_or d a) v) refl (ltb v (bit_or d a)) refl
      where
        go : (b : Bool) → ltb (bit_or d a) v ≡ b → (t : Bool) → ltb v (bit_or d a) ≡ t → (bit_or d a < v) ⊎ (bit_or d a ≡ v)
        go true e t q = inl (ltb-true (bit_or d a) v e)
        go false e true q = absurd (omega (arith, next_least d v (bit_or d a) has (has_or d a) (ltb-true v (bit_or d a) q)))
        go false e false q = inr (omega (arith, ltb-false (bit_or d a) v e, ltb-false v (bit_or d a) q))

    found_more : bit_or d own ≡ v → Within c (get_or w v 0) → any (λ b. includes own b) found ≡ false
        → Found sheet d c (bit_or d (v + 1)) (found ++ (own ∷ []))
    found_more e makes none =
        record {
          only = λ a m.
              ⊎_elim (λ (k : Memᴰ a found). let o = f.only a k in (o.0, omega (arith, o.1, above_next d v)))
              (λ (k : Memᴰ a (own ∷ [])).
              let q : a ≡ own = Memᴰ.eq_of_singleton k in (
                subst (λ (x : ℕ). Memᴰ x (labels sheet d c)) (sym q) (own_label e makes none),
                omega (arith, ap (bit_or d) q, e, above_next d v),
              ))
              (Memᴰ.append_cases found m);
          all = λ a m l.
              ⊎_elim (λ (k : bit_or d a < v). Memᴰ.append_left (own ∷ []) (f.all a m k))
              (λ (k : bit_or d a ≡ v). Memᴰ.append_right found (Memᴰ.head (sym (label_own m k)))) (next_union a l);
          distinct =
              distinct_append found (own ∷ []) f.distinct (one_more (λ m. Memᴰ.not-nil m) no_elements)
              (λ a m k. omega (arith, (f.only a m).1, ap (bit_or d) (Memᴰ.eq_of_singleton k), e));
        }

    found_same : is_next w d c found v ≡ false → Found sheet d c (bit_or d (v + 1)) found
    found_same n =
        record {
          only = λ a m. let o = f.only a m in (o.0, omega (arith, o.1, above_next d v));
          all = λ a m l.
              ⊎_elim (λ (k : bit_or d a < v). f.all a m k)
              (λ (k : bit_or d a ≡ v). true_false (is_next w d c found v) (label_next m k) n) (next_union a l);
          distinct = f.distinct;
        }

    pub found_next : Found sheet d c (bit_or d (v + 1)) (cond (is_next w d c found v) (found ++ (get_or w (v - d) 0 ∷ [])) found)
    unfolding own
    found_next = go (is_next w d c found v) refl
      where
        go : (b : Bool) → is_next w d c found v ≡ b → Found sheet d c (bit_or d (v + 1)) (cond b (found ++ (own ∷ [])) found)
        go false n = found_same n
        go true n =
            let p = and_left (passes_by w d c v) (not (any (λ b. includes own b) found)) n in
            found_more (eqb-true (bit_or d own) v (and_left (eqb (bit_or d own) v) (includes (get_or w v 0) c) p))
            (includes_within (get_or w v 0) c (and_right (eqb (bit_or d own) v) (includes (get_or w v 0) c) p))
            (not-true (any (λ b. includes own b) found) (and_right (passes_by w d c v) (not (any (λ b. includes own b) found)) n))

-- ---- whether v gives the next label
module _ (w : List ℕ) (d c v : ℕ) (found : List ℕ) where
  pub next_fails : passes_by w d c v ≡ false → is_next w d c found v ≡ false
  next_fails e = rw e

  pub next_covered : passes_by w d c v ≡ true → any (λ b. includes (get_or w (v - d) 0) b) found ≡ true → is_next w d c found v ≡ false
  next_covered e h = rw (e, h)

  pub next_found : passes_by w d c v ≡ true → any (λ b. includes (get_or w (v - d) 0) b) found ≡ false → is_next w d c found v ≡ true
  next_found e h = rw (e, h)
