-- The labels of an ask are those of what the store lacks of the asked set, and are the closures of what they have
-- outside the store.
use Rattle.std.specs.Prelude.{◌≡◌, ℕ, ◌^◌, ◌<◌}
use Rattle.std.proofs.Common.{subst, arith}
use mathlib.Core.List.{Memᴰ}
use Rattle.std.specs.Int.Bits.{bit_or}
use Rattle.move_laws.specs.AscendingLaws.{number_order, ascends_unique}
use Rattle.closure_table.specs.FactSets.{Within}
use Rattle.closure_table.specs.FactSetLaws.{within_trans, within_or_right, or_least, within_le}
use Rattle.closure_table.specs.Stores.{Constraint, conclusions, closure, join}
use Rattle.move_laws.specs.StoreLaws.{closure_least, closure_includes, closure_closed, closure_constraint, join_left, join_right}
use Rattle.move_laws.specs.Sheet.{Sheet}
use Rattle.move_laws.specs.Moves.{labels}
use Rattle.move_laws.specs.LabelLaws.{label_constraint, label_makes_true, label_below, label_minimal, labels_ascend}
use Rattle.move_laws.specs.FactsOutside.{outside}
use Rattle.move_laws.specs.OutsideLaws.{or_outside, outside_within}

-- ---- the asked set
-- where two asked sets are made true by the same constraints, a label of one is a label of the other
label_of_other : (sheet : Sheet) (d c e : ℕ) → ((a : ℕ) → Within c (join sheet.rules d a) → Within e (join sheet.rules d a))
    → ((a : ℕ) → Within e (join sheet.rules d a) → Within c (join sheet.rules d a)) → (a : ℕ)
    → Memᴰ a (labels sheet d c) → Memᴰ a (labels sheet d e)
label_of_other sheet d c e there back a m =
    let x = label_below sheet d e a (label_constraint sheet d c m) (there a (label_makes_true sheet d c m)) in
    let same : x.0 ≡ a =
    label_minimal sheet d c m x.0 (label_constraint sheet d e x.1) (back x.0 (label_makes_true sheet d e x.1)) x.2 in
    subst (λ (b : ℕ). Memᴰ b (labels sheet d e)) same x.1

-- the labels of an ask of c are those of an ask of what d lacks of it
pub labels_missing : (sheet : Sheet) (d c : ℕ) → labels sheet d (outside d c) ≡ labels sheet d c
labels_missing sheet d c =
    ascends_unique number_order (labels sheet d (outside d c)) (labels sheet d c) (labels_ascend sheet d (outside d c)) (labels_ascend sheet d c)
    (label_of_other sheet d (outside d c) c there back) (label_of_other sheet d c (outside d c) back there)
  where
    there : (a : ℕ) → Within (outside d c) (join sheet.rules d a) → Within c (join sheet.rules d a)
    there a h =
        within_trans (within_or_right d c)
        (subst (λ (x : ℕ). Within x (join sheet.rules d a)) (or_outside d c) (or_least (join_left sheet.rules d a) h))

    back : (a : ℕ) → Within c (join sheet.rules d a) → Within (outside d c) (join sheet.rules d a)
    back a h = within_trans (outside_within d c) h

-- ---- what a label has outside the store
module _ (sheet : Sheet) (d c : ℕ) (fit : conclusions sheet.rules < 2 ^ sheet.facts) where
  -- a label is the closure of what it has outside d
  pub label_outside : {a : ℕ} → Memᴰ a (labels sheet d c) → closure sheet.rules (outside d a) ≡ a
  label_outside {a} m = label_minimal sheet d c m own own_constraint makes inside
    where
      own : ℕ
      own = closure sheet.rules (outside d a)

      facts : outside d a < 2 ^ sheet.facts
      facts = omega (arith, within_le (outside_within d a), (label_constraint sheet d c m).facts)

      own_constraint : Constraint sheet.facts sheet.rules own
      own_constraint = closure_constraint sheet.rules sheet.facts (outside d a) facts fit

      inside : Within own a
      inside = closure_least sheet.rules (outside d a) a (label_constraint sheet d c m).closed (outside_within d a)

      joined : Within (bit_or d a) (join sheet.rules d own)
      joined =
          subst (λ (x : ℕ). Within x (join sheet.rules d own)) (or_outside d a)
          (or_least (join_left sheet.rules d own)
          (within_trans (closure_includes sheet.rules (outside d a)) (join_right sheet.rules d own)))

      makes : Within c (join sheet.rules d own)
      makes =
          within_trans (label_makes_true sheet d c m)
          (closure_least sheet.rules (bit_or d a) (join sheet.rules d own) (closure_closed sheet.rules (bit_or d own)) joined)
