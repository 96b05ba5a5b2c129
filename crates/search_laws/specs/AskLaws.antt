-- Laws of the labels of an ask: what makes the asked set true, which sets have the same labels, and where there is one label only.
use Rattle.std.specs.Prelude.{◌≡◌, true, ℕ, ◌^◌, ◌<◌}
use Rattle.std.proofs.Common.{sym, ap, ◌∙◌, subst, ⊎_elim, arith}
use mathlib.Core.List.Memᴰ
use mathlib.Core.List.{List, [], ◌∷◌, Memᴰ}
use Rattle.std.specs.Int.Bits.{bit_and, bit_or}
use Rattle.std.proofs.lemmas.Nat.{or_lt}
use Rattle.move_laws.specs.AscendingLaws.{number_order, ascends_unique}
use Rattle.move_laws.specs.FactSets.{digit, Within}
use Rattle.move_laws.specs.FactsOutside.{outside}
use Rattle.move_laws.specs.Stores.{Rule, Closed, conclusions, closure, join, least_store}
use Rattle.move_laws.specs.FactSetLaws.{digit_and, digit_or, zero_digit, within_refl, within_trans, within_or_left, within_or_right, or_least, within_le}
use Rattle.move_laws.specs.OutsideLaws.{or_outside, outside_apart, outside_within}
use Rattle.move_laws.specs.StoreLaws.{includes_within, within_includes, closure_includes, closure_least, closure_lt, closure_constraint, join_left, join_right, join_closed, join_least, least_within}
use Rattle.move_laws.specs.Sheet.{Sheet}
use Rattle.move_laws.specs.Moves.{makes_true, labels}
use Rattle.move_laws.specs.LabelLaws.{distinct_one, label_constraint, label_makes_true, label_below, label_minimal, labels_distinct, labels_ascend}

-- ---- what rules conclude
-- the conclusion of each rule is among all conclusions
pub conclusions_within : (rs : List Rule) (r : Rule) → Memᴰ r rs → Within r.conclusion (conclusions rs)
unfolding conclusions
conclusions_within [] r m = absurd (Memᴰ.not-nil m)
conclusions_within (q ∷ rs) r m =
    ⊎_elim (λ (e : r ≡ q). rw e (within_or_left q.conclusion (conclusions rs)))
    (λ (k : Memᴰ r rs). within_trans (conclusions_within rs r k) (within_or_right q.conclusion (conclusions rs))) (Memᴰ.cases_cons m)

-- each fact of the closure of s is in s or is concluded
pub closure_within : (rs : List Rule) (s : ℕ) → Within (closure rs s) (bit_or s (conclusions rs))
closure_within rs s =
    closure_least rs s (bit_or s (conclusions rs))
    (record { obeys = λ r m. record { follows = λ h. within_trans (conclusions_within rs r m) (within_or_right s (conclusions rs)) } })
    (within_or_left s (conclusions rs))

module _ (sheet : Sheet) (d c : ℕ) where
  -- ---- what makes the asked set true
  -- s makes c true at d where every constraint that includes d and s includes c
  pub made_by_closed : (s : ℕ) → conclusions sheet.rules < 2 ^ sheet.facts → d < 2 ^ sheet.facts → s < 2 ^ sheet.facts
      → ((t : ℕ) → t < 2 ^ sheet.facts → Closed sheet.rules t → Within d t → Within s t → Within c t) → makes_true sheet d c s ≡ true
  made_by_closed s fit f g h =
      within_includes (h (join sheet.rules d s) (closure_lt sheet.rules sheet.facts (bit_or d s) (or_lt sheet.facts d s f g) fit)
      (join_closed sheet.rules d s) (join_left sheet.rules d s) (join_right sheet.rules d s))

  -- where s makes c true at d, every closed set that includes d and s includes c
  pub made_in_closed : (s t : ℕ) → makes_true sheet d c s ≡ true → Closed sheet.rules t → Within d t → Within s t → Within c t
  made_in_closed s t e k h g = within_trans (includes_within (join sheet.rules d s) c e) (join_least sheet.rules d s t k h g)

  -- where s makes c true at d, each set that includes s does
  pub makes_mono : {s t : ℕ} → makes_true sheet d c s ≡ true → Within s t → makes_true sheet d c t ≡ true
  makes_mono {s} {t} e h =
      within_includes (made_in_closed s (join sheet.rules d t) e (join_closed sheet.rules d t) (join_left sheet.rules d t)
      (within_trans h (join_right sheet.rules d t)))

  -- ---- other asked sets
  -- where what makes c true at d makes e true and the other way round, a label of c is a label of e
  pub label_of_other : (e : ℕ) → ((a : ℕ) → Within c (join sheet.rules d a) → Within e (join sheet.rules d a))
      → ((a : ℕ) → Within e (join sheet.rules d a) → Within c (join sheet.rules d a)) → (a : ℕ)
      → Memᴰ a (labels sheet d c) → Memᴰ a (labels sheet d e)
  label_of_other e there back a m =
      let x = label_below sheet d e a (label_constraint sheet d c m) (there a (label_makes_true sheet d c m)) in
      let same : x.0 ≡ a =
      label_minimal sheet d c m x.0 (label_constraint sheet d e x.1) (back x.0 (label_makes_true sheet d e x.1)) x.2 in
      subst (λ (b : ℕ). Memᴰ b (labels sheet d e)) same x.1

-- two asked sets that the same sets make true at d have the same labels there
pub labels_alike : (sheet : Sheet) (d c e : ℕ) → ((a : ℕ) → Within c (join sheet.rules d a) → Within e (join sheet.rules d a))
    → ((a : ℕ) → Within e (join sheet.rules d a) → Within c (join sheet.rules d a)) → labels sheet d c ≡ labels sheet d e
labels_alike sheet d c e there back =
    ascends_unique number_order (labels sheet d c) (labels sheet d e) (labels_ascend sheet d c) (labels_ascend sheet d e)
    (label_of_other sheet d c e there back) (label_of_other sheet d e c back there)

-- the labels of an ask of c are those of an ask of what d lacks of it
pub labels_missing : (sheet : Sheet) (d c : ℕ) → labels sheet d (outside d c) ≡ labels sheet d c
labels_missing sheet d c =
    labels_alike sheet d (outside d c) c
    (λ a h. within_trans (within_or_right d c)
    (subst (λ (x : ℕ). Within x (join sheet.rules d a)) (or_outside d c) (or_least (join_left sheet.rules d a) h)))
    (λ a h. within_trans (outside_within d c) h)

-- the labels of an ask of c are those of an ask of what d and c close to
pub labels_joined : (sheet : Sheet) (d c : ℕ) → labels sheet d (join sheet.rules d c) ≡ labels sheet d c
labels_joined sheet d c =
    labels_alike sheet d (join sheet.rules d c) c (λ a h. within_trans (join_right sheet.rules d c) h)
    (λ a h. join_least sheet.rules d c (join sheet.rules d a) (join_closed sheet.rules d a) (join_left sheet.rules d a) h)

-- asks of two sets that close to the same with d have the same labels there
pub same_joined : (sheet : Sheet) (d c e : ℕ) → join sheet.rules d c ≡ join sheet.rules d e → labels sheet d c ≡ labels sheet d e
same_joined sheet d c e q = sym (labels_joined sheet d c) ∙ ap (labels sheet d) q ∙ labels_joined sheet d e

-- ---- one label only
-- the conclusions hold facts of the sheet only
module _ (sheet : Sheet) (fit : conclusions sheet.rules < 2 ^ sheet.facts) where
  -- where a constraint makes c true at d only if it includes c, the closure of c is the one label
  pub labels_closure : (d c : ℕ) → c < 2 ^ sheet.facts
      → ((b : ℕ) → Closed sheet.rules b → Within c (join sheet.rules d b) → Within c b) → labels sheet d c ≡ closure sheet.rules c ∷ []
  labels_closure d c l only =
      let own = closure_constraint sheet.rules sheet.facts c l fit in
      let makes = within_trans (closure_includes sheet.rules c) (join_right sheet.rules d (closure sheet.rules c)) in
      let one : (b : ℕ) → Memᴰ b (labels sheet d c) → b ≡ closure sheet.rules c = λ b m.
      let k = (label_constraint sheet d c m).closed in
      sym (label_minimal sheet d c m (closure sheet.rules c) own makes
      (closure_least sheet.rules c b k (only b k (label_makes_true sheet d c m)))) in
      let x = label_below sheet d c (closure sheet.rules c) own makes in
      distinct_one (closure sheet.rules c) (labels sheet d c) (labels_distinct sheet d c)
      (subst (λ (b : ℕ). Memᴰ b (labels sheet d c)) (one x.0 x.1) x.1) one

  -- at the least store the closure of the asked set is the one label
  pub labels_least : (c : ℕ) → c < 2 ^ sheet.facts → labels sheet (least_store sheet.rules) c ≡ closure sheet.rules c ∷ []
  labels_least c l =
      labels_closure (least_store sheet.rules) c l
      (λ b k h. within_trans h (join_least sheet.rules (least_store sheet.rules) b b k (least_within sheet.rules b k) (within_refl b)))

  -- where no rule concludes a fact of c that d lacks, the closure of those facts is the one label
  pub labels_unconcluded : (d c : ℕ) → c < 2 ^ sheet.facts → bit_and (outside d c) (conclusions sheet.rules) ≡ 0
      → labels sheet d c ≡ closure sheet.rules (outside d c) ∷ []
  labels_unconcluded d c l none =
      sym (labels_missing sheet d c) ∙ labels_closure d (outside d c) (omega (arith, within_le (outside_within d c))) only
    where
      only : (b : ℕ) → Closed sheet.rules b → Within (outside d c) (join sheet.rules d b) → Within (outside d c) b
      only b k h =
          record {
            at = λ i.
                omega (
                  arith,
                  h.at i,
                  (closure_within sheet.rules (bit_or d b)).at i,
                  digit_or (bit_or d b) (conclusions sheet.rules) i,
                  digit_or d b i,
                  digit_and d (outside d c) i,
                  ap (λ (n : ℕ). digit n i) (outside_apart d c),
                  digit_and (outside d c) (conclusions sheet.rules) i,
                  ap (λ (n : ℕ). digit n i) none,
                  zero_digit i,
                );
          }
