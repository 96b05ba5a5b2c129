-- The labels of an ask on a sheet without the facts that always stand: they have none of those facts, and with them they are the labels
-- on the sheet itself.
use Rattle.std.specs.Prelude.{◌≡◌, ℕ, ◌^◌, ◌<◌, ltb}
use Rattle.std.proofs.Common.{sym, ap, ◌∙◌, subst, arith, ltb-true, lt-ltb}
use mathlib.Core.List.{List, [], ◌∷◌, map, Memᴰ}
use Rattle.std.proofs.lemmas.Nat.{or_lt}
use Rattle.comparison_laws.specs.Lists.{Ascends, none_left, then_rest}
use Rattle.comparison_laws.specs.Members.{mem_map, map_mem}
use Rattle.comparison_laws.specs.AscendingLaws.{number_order, ascends_head, ascends_tail, ascends_unique}
use Rattle.comparison_laws.specs.FactSets.{Within}
use Rattle.comparison_laws.specs.Stores.{Rule, Constraint, conclusions, join, least_store}
use Rattle.comparison_laws.specs.FactSetLaws.{within_trans, within_le}
use Rattle.sheet_encoder.specs.FactsOutside.{outside}
use Rattle.sheet_encoder.specs.OutsideLaws.{outside_within}
use Rattle.comparison_laws.specs.StoreLaws.{join_left, join_right, join_closed, join_least, least_within}
use Rattle.comparison_laws.specs.Sheet.{Sheet}
use Rattle.comparison_laws.specs.Moves.{labels}
use Rattle.comparison_laws.specs.LabelLaws.{label_constraint, label_makes_true, label_below, label_minimal, labels_ascend, least_constraint}
use Rattle.standing_laws.specs.StandingFacts.{rule_without, sheet_without, raised}
use Rattle.standing_laws.proofs.RaisedSets.{Free, free_outside, outside_fills, raised_union, raised_outside, raised_has, raised_above, raised_least, free_in_raised, within_raised, raised_within, closed_raised, closed_outside, low_closed_outside, low_closed_raised, free_join, join_raised}

-- ---- the order of labels
raised_ascends : (z : ℕ) (xs : List ℕ) → Ascends ltb xs → Ascends ltb (map (raised z) xs)
raised_ascends z [] s = none_left
raised_ascends z (x ∷ xs) s =
    then_rest
    (λ y m.
    let i = mem_map (raised z) xs m in
    lt-ltb (raised z x) y (omega (arith, i.2, ltb-true x i.0 (ascends_head number_order s i.0 i.1))))
    (raised_ascends z xs (ascends_tail number_order s))

-- ---- without the facts of a set z
module _ (sheet : Sheet) (z : ℕ) where
  -- the rules without z
  abbrev low : List Rule
  low = map (rule_without z) sheet.rules

  -- what a makes true at d, its facts outside z make true
  outside_makes_true : (d c a : ℕ) → Free z d → Free z c → Within c (join low d a) → Within c (join low d (outside z a))
  outside_makes_true d c a f g h =
      let j : ℕ = join low d (outside z a) in
      let k : Free z j = free_join z sheet.rules d (outside z a) f (free_outside z a) in
      let up : Within j (raised z j) = raised_above z j k in
      free_in_raised z c j g k
      (within_trans h
      (join_least low d a (raised z j) (low_closed_raised z sheet.rules j k (join_closed low d (outside z a)))
      (within_trans (join_left low d (outside z a)) up)
      (outside_fills z a (raised z j) (raised_has z j k) (within_trans (join_right low d (outside z a)) up))))

  -- the labels of a free ask at a free store are free
  pub free_labels : (d c : ℕ) → Free z d → Free z c → {a : ℕ} → Memᴰ a (labels (sheet_without z sheet) d c) → Free z a
  free_labels d c f g {a} m =
      let k : Constraint sheet.facts low a = label_constraint (sheet_without z sheet) d c m in
      let part : Constraint sheet.facts low (outside z a) =
      record { closed = low_closed_outside z sheet.rules a k.closed; facts = omega (arith, within_le (outside_within z a), k.facts) } in
      let same : outside z a ≡ a =
      label_minimal (sheet_without z sheet) d c m (outside z a) part
      (outside_makes_true d c a f g (label_makes_true (sheet_without z sheet) d c m)) (outside_within z a) in
      subst (λ (x : ℕ). Free z x) same (free_outside z a)

-- ---- without the least store
module _ (sheet : Sheet) where
  -- the facts that always stand
  abbrev z : ℕ
  z = least_store sheet.rules

  -- the sheet without them
  abbrev lower : Sheet
  lower = sheet_without z sheet

  -- a constraint without them is a constraint of it
  pub constraint_outside : (a : ℕ) → Constraint sheet.facts sheet.rules a → Constraint sheet.facts lower.rules (outside z a)
  constraint_outside a k =
      record {
        closed = closed_outside z sheet.rules a (least_within sheet.rules a k.closed) k.closed;
        facts = omega (arith, within_le (outside_within z a), k.facts);
      }

  -- the conclusions hold facts of the sheet only
  module _ (fit : conclusions sheet.rules < 2 ^ sheet.facts) where
    constraint_raised : (a : ℕ) → Free z a → Constraint sheet.facts lower.rules a → Constraint sheet.facts sheet.rules (raised z a)
    constraint_raised a f k =
        record {
          closed = closed_raised z sheet.rules a f k.closed;
          facts = omega (arith, raised_union z a f, or_lt sheet.facts z a (least_constraint sheet fit).facts k.facts);
        }

    module _ (d c : ℕ) (f : Free z d) (g : Free z c) where
      makes_true_raised : (a : ℕ) → Free z a → Within c (join lower.rules d a)
          → Within (raised z c) (join sheet.rules (raised z d) (raised z a))
      makes_true_raised a h w =
          subst (λ (x : ℕ). Within (raised z c) x) (sym (join_raised z sheet.rules d a f h))
          (within_raised z c (join lower.rules d a) g (free_join z sheet.rules d a f h) w)

      makes_true_outside : (a : ℕ) → Constraint sheet.facts sheet.rules a → Within (raised z c) (join sheet.rules (raised z d) a)
          → Within c (join lower.rules d (outside z a))
      makes_true_outside a k w =
          let h : Free z (outside z a) = free_outside z a in
          let e : raised z (outside z a) ≡ a = raised_outside z a (least_within sheet.rules a k.closed) in
          raised_within z c (join lower.rules d (outside z a)) g (free_join z sheet.rules d (outside z a) f h)
          (subst (λ (x : ℕ). Within (raised z c) x)
          (ap (join sheet.rules (raised z d)) (sym e) ∙ join_raised z sheet.rules d (outside z a) f h) w)

      -- a label without z, with z, is a label of the sheet
      label_raised : (a : ℕ) → Memᴰ a (labels lower d c) → Memᴰ (raised z a) (labels sheet (raised z d) (raised z c))
      label_raised a m =
          let h : Free z a = free_labels sheet z d c f g m in
          let x = label_below sheet (raised z d) (raised z c) (raised z a) (constraint_raised a h (label_constraint lower d c m))
          (makes_true_raised a h (label_makes_true lower d c m)) in
          let k : Constraint sheet.facts sheet.rules x.0 = label_constraint sheet (raised z d) (raised z c) x.1 in
          let same : outside z x.0 ≡ a =
          label_minimal lower d c m (outside z x.0) (constraint_outside x.0 k)
          (makes_true_outside x.0 k (label_makes_true sheet (raised z d) (raised z c) x.1))
          (free_in_raised z (outside z x.0) a (free_outside z x.0) h (within_trans (outside_within z x.0) x.2)) in
          let e : x.0 ≡ raised z a = sym (raised_outside z x.0 (least_within sheet.rules x.0 k.closed)) ∙ ap (raised z) same in
          subst (λ (b : ℕ). Memᴰ b (labels sheet (raised z d) (raised z c))) e x.1

      -- and each label of the sheet is one of those
      label_lowered : (b : ℕ) → Memᴰ b (labels sheet (raised z d) (raised z c)) → Memᴰ b (map (raised z) (labels lower d c))
      label_lowered b m =
          let k : Constraint sheet.facts sheet.rules b = label_constraint sheet (raised z d) (raised z c) m in
          let x = label_below lower d c (outside z b) (constraint_outside b k)
          (makes_true_outside b k (label_makes_true sheet (raised z d) (raised z c) m)) in
          let h : Free z x.0 = free_labels sheet z d c f g x.1 in
          let same : raised z x.0 ≡ b =
          label_minimal sheet (raised z d) (raised z c) m (raised z x.0) (constraint_raised x.0 h (label_constraint lower d c x.1))
          (makes_true_raised x.0 h (label_makes_true lower d c x.1))
          (raised_least z x.0 b h (least_within sheet.rules b k.closed) (within_trans x.2 (outside_within z b))) in
          subst (λ (y : ℕ). Memᴰ y (map (raised z) (labels lower d c))) same (map_mem (raised z) x.1)

      -- the labels of the sheet are those without z, with z
      pub labels_raised : labels sheet (raised z d) (raised z c) ≡ map (raised z) (labels lower d c)
      labels_raised =
          ascends_unique number_order (labels sheet (raised z d) (raised z c)) (map (raised z) (labels lower d c))
          (labels_ascend sheet (raised z d) (raised z c)) (raised_ascends z (labels lower d c) (labels_ascend lower d c))
          label_lowered
          (λ b m.
          let i = mem_map (raised z) (labels lower d c) m in
          subst (λ (y : ℕ). Memᴰ y (labels sheet (raised z d) (raised z c))) (sym i.2) (label_raised i.0 i.1))
