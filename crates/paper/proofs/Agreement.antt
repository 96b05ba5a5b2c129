-- Tables 1 and 2 agree, for all processes: a reduction is a transition labelled true, a transition is a reduction once its
-- label is added (sound), and a reduction with a constraint added comes from a transition with a label below it (complete).
use Rattle.std.specs.Prelude.{◌≡◌, refl, ◌↔◌, ℕ}
use Rattle.std.proofs.Common.{sym, ap, ◌∙◌, subst}
use Rattle.comparison_laws.specs.FactSets.{Within}
use Rattle.comparison_laws.specs.FactSetLaws.{within_trans}
use Rattle.comparison_laws.specs.Stores.{Closed, join, least_store}
use Rattle.comparison_laws.specs.StoreLaws.{join_left, join_right, join_closed, join_comm, join_assoc, within_join, least_within, below_least}
use Rattle.comparison_laws.specs.Sheet.{Sheet}
use Rattle.comparison_laws.specs.WellFormed.{WellFormed}
use Rattle.comparison_laws.specs.LabelLaws.{label_below, least_constraint}
use Rattle.comparison_laws.specs.SheetMoves.{conclusions_fit}
use Rattle.paper.specs.Terms.{Term, nil, tell, ask}
use Rattle.paper.specs.Tables.{Reduction, R1, R2, R3_left, R3_right, R4_left, R4_right, R6, Minimal, Transition, LR1, LR2, LR3_left, LR3_right, LR4_left, LR4_right, LR6}
use Rattle.paper.specs.Bisimulations.{Con}
use Rattle.paper.proofs.LabelBridge.{labels_minimal}

module _ (s : Sheet) where
  abbrev J : ℕ → ℕ → ℕ
  J = join s.rules

  abbrev least : ℕ
  least = least_store s.rules

  -- joining the least store to a closed set changes nothing
  pub join_least_store : (d : ℕ) → Closed s.rules d → J d least ≡ d
  join_least_store d c = join_comm s.rules d least ∙ within_join s.rules c (least_within s.rules d c)

  -- what is joined may change places
  pub join_across : (d e c : ℕ) → J (J d e) c ≡ J (J d c) e
  join_across d e c = join_assoc s.rules d e c ∙ ap (J d) (join_comm s.rules e c) ∙ sym (join_assoc s.rules d c e)

  -- joining a constraint and then one above it is joining the one above
  pub join_under : (d a e : ℕ) → Closed s.rules e → Within a e → J (J d a) e ≡ J d e
  join_under d a e c h = join_assoc s.rules d a e ∙ ap (J d) (within_join s.rules c h)

  -- joining what is there already changes nothing
  pub join_inside : (d a : ℕ) → Closed s.rules d → Within a d → J d a ≡ d
  join_inside d a c h = join_comm s.rules d a ∙ within_join s.rules c h

  -- ---- a reduction is a transition labelled true
  module _ (wf : WellFormed s) where
    -- where the store entails c, true is minimal
    least_minimal : (d c : ℕ) → Within c d → Minimal s d c least
    least_minimal d c w = record {
      constraint = least_constraint s (conclusions_fit s wf);
      entails = within_trans w (join_left s.rules d least);
      minimal = λ b cb _ l. l.1 (below_least s.rules b cb.closed l.0);
    }

    labelled_true : {p p' : Term} {d d' : ℕ} → Con s d → Reduction s p d p' d' → Transition s p d (least_store s.rules) p' d'
    labelled_true k (R1 c d) = LR1 c d
    labelled_true k (R2 c d p w) =
        subst (λ (x : ℕ). Transition s (ask c p) d (least_store s.rules) p x) (join_least_store d k.closed)
        (LR2 c d (least_store s.rules) p (least_minimal d c w))
    labelled_true k (R3_left r) = LR3_left (labelled_true k r)
    labelled_true k (R3_right r) = LR3_right (labelled_true k r)
    labelled_true k (R4_left r) = LR4_left (labelled_true k r)
    labelled_true k (R4_right r) = LR4_right (labelled_true k r)
    labelled_true k (R6 r) = LR6 (labelled_true k r)

  unlabelled : {p p' : Term} {d a d' : ℕ} → Con s d → a ≡ least_store s.rules → Transition s p d a p' d' → Reduction s p d p' d'
  unlabelled k e (LR1 c d) = R1 c d
  unlabelled k e (LR2 c d a p m) =
      let same : J d a ≡ d = ap (J d) e ∙ join_least_store d k.closed in
      subst (λ (x : ℕ). Reduction s (ask c p) d p x) (sym same) (R2 c d p (subst (λ (x : ℕ). Within c x) same m.entails))
  unlabelled k e (LR3_left r) = R3_left (unlabelled k e r)
  unlabelled k e (LR3_right r) = R3_right (unlabelled k e r)
  unlabelled k e (LR4_left r) = R4_left (unlabelled k e r)
  unlabelled k e (LR4_right r) = R4_right (unlabelled k e r)
  unlabelled k e (LR6 r) = R6 (unlabelled k e r)

  pub reduction_transition : WellFormed s → (p : Term) (d : ℕ) (p' : Term) (d' : ℕ) → Con s d
      → Reduction s p d p' d' ↔ Transition s p d (least_store s.rules) p' d'
  reduction_transition wf p d p' d' k = ((λ r. labelled_true wf k r), (λ t. unlabelled k refl t))

  -- ---- sound: a transition is a reduction once its label is added
  pub transition_sound : {p p' : Term} {d a d' : ℕ} → Closed s.rules d → Transition s p d a p' d'
      → Reduction s p (join s.rules d a) p' d'
  transition_sound k (LR1 c d) = subst (λ (x : ℕ). Reduction s (tell c) x nil (J d c)) (sym (join_least_store d k)) (R1 c d)
  transition_sound k (LR2 c d a p m) = R2 c (J d a) p m.entails
  transition_sound k (LR3_left r) = R3_left (transition_sound k r)
  transition_sound k (LR3_right r) = R3_right (transition_sound k r)
  transition_sound k (LR4_left r) = R4_left (transition_sound k r)
  transition_sound k (LR4_right r) = R4_right (transition_sound k r)
  transition_sound k (LR6 r) = R6 (transition_sound k r)

  -- a reduction stays one when more is added
  pub reduction_more : {p p' : Term} {d d' : ℕ} (e : ℕ) → Reduction s p d p' d'
      → Reduction s p (join s.rules d e) p' (join s.rules d' e)
  reduction_more e (R1 c d) = subst (λ (x : ℕ). Reduction s (tell c) (J d e) nil x) (join_across d e c) (R1 c (J d e))
  reduction_more e (R2 c d p w) = R2 c (J d e) p (within_trans w (join_left s.rules d e))
  reduction_more e (R3_left r) = R3_left (reduction_more e r)
  reduction_more e (R3_right r) = R3_right (reduction_more e r)
  reduction_more e (R4_left r) = R4_left (reduction_more e r)
  reduction_more e (R4_right r) = R4_right (reduction_more e r)
  reduction_more e (R6 r) = R6 (reduction_more e r)

  -- ---- complete: a reduction with e added comes from a transition with a label below e
  module _ (d e : ℕ) (ce : Con s e) where
    -- such a transition
    abbrev Origin : Term → Term → ℕ → Type 0
    Origin p p' d' = (a : ℕ) × (d'' : ℕ) × Within a e × Transition s p d a p' d'' × (d' ≡ join s.rules d'' e)

    origin : {p p' : Term} {x d' : ℕ} → x ≡ J d e → Reduction s p x p' d' → Origin p p' d'
    origin q (R1 c x) = (least, J d c, least_within s.rules e ce.closed, LR1 c d, ap (λ (y : ℕ). J y c) q ∙ join_across d e c)
    origin q (R2 c x p w) =
        let y = label_below s d c e ce (subst (λ (z : ℕ). Within c z) q w) in (
          y.0,
          J d y.0,
          y.2,
          LR2 c d y.0 p ((labels_minimal s d c y.0).0 y.1),
          q ∙ sym (join_under d y.0 e ce.closed y.2),
        )
    origin q (R3_left r) = let x = origin q r in (x.0, x.1, x.2, LR3_left x.3, x.4)
    origin q (R3_right r) = let x = origin q r in (x.0, x.1, x.2, LR3_right x.3, x.4)
    origin q (R4_left r) = let x = origin q r in (x.0, x.1, x.2, LR4_left x.3, x.4)
    origin q (R4_right r) = let x = origin q r in (x.0, x.1, x.2, LR4_right x.3, x.4)
    origin q (R6 r) = let x = origin q r in (x.0, x.1, x.2, LR6 x.3, x.4)

  pub transition_complete : {p p' : Term} {d' : ℕ} (d e : ℕ) → Con s e → Reduction s p (join s.rules d e) p' d'
      → (a : ℕ) × (d'' : ℕ) × Within a e × Transition s p d a p' d'' × (d' ≡ join s.rules d'' e)
  transition_complete d e ce r = origin d e ce refl r

  -- ---- a label is a constraint, and the store after a transition is closed and has it
  pub record Labelled (a d' : ℕ) : Type 0 where
    pub constraint : Con s a
    pub closed : Closed s.rules d'
    pub inside : Within a d'

  pub transition_constraint : WellFormed s → {p p' : Term} {d a d' : ℕ} → Transition s p d a p' d' → Labelled a d'
  transition_constraint wf (LR1 c d) = record {
    constraint = least_constraint s (conclusions_fit s wf);
    closed = join_closed s.rules d c;
    inside = least_within s.rules (J d c) (join_closed s.rules d c);
  }
  transition_constraint wf (LR2 c d a p m) =
      record { constraint = m.constraint; closed = join_closed s.rules d a; inside = join_right s.rules d a }
  transition_constraint wf (LR3_left r) = transition_constraint wf r
  transition_constraint wf (LR3_right r) = transition_constraint wf r
  transition_constraint wf (LR4_left r) = transition_constraint wf r
  transition_constraint wf (LR4_right r) = transition_constraint wf r
  transition_constraint wf (LR6 r) = transition_constraint wf r
