-- How the paper's bisimilarities lie inside each other: ∼s is inside ∼sb, and ∼sb inside ∼b. (`Theorem1` has ∼I.)
use Rattle.std.proofs.Common.{sym, subst}
use Rattle.std.specs.Prelude.{ℕ}
use Rattle.comparison_laws.specs.Sheet.{Sheet}
use Rattle.comparison_laws.specs.WellFormed.{WellFormed}
use Rattle.paper.specs.Terms.{Conf}
use Rattle.paper.specs.Bisimulations.{Reduces, with_added, SyntacticBisimulation, BarbedBisimilar, SaturatedBarbedBisimilar, SyntacticBisimilar}
use Rattle.paper.proofs.Adding.{added_sound, origin}
use Rattle.paper.proofs.AddedPairs.{AddedPair, added_pair, related_pair, pairs_symmetric, pairs_barbs, pairs_upward}

module _ (s : Sheet) where
  -- ∼sb is inside ∼b
  pub saturated_barbed : (x y : Conf) → SaturatedBarbedBisimilar s x y → BarbedBisimilar s x y
  saturated_barbed x y b = record {
    relation = b.relation;
    is_such = record { relation = b.is_such.relation; barbs = b.is_such.barbs; reductions = b.is_such.reductions };
    contains = b.contains;
  }

  -- a reduction with a constraint added is answered by the transition with the same label
  syntactic_answer : (R : Conf → Conf → Type 0) → SyntacticBisimulation s R → (x y x' : Conf) → AddedPair s R x y → Reduces s x x'
      → (y' : Conf) × Reduces s y y' × AddedPair s R x' y'
  syntactic_answer R b x y x' g m =
      let e : ℕ = g.constraint in
      let w = origin s g.left e x' g.is_constraint (subst (λ (v : Conf). Reduces s v x') g.left_is m) in
      let v = b.transitions g.left g.right w.label w.target g.related w.transition in (
        with_added s e v.0,
        subst (λ (z : Conf). Reduces s z (with_added s e v.0)) (sym g.right_is)
            (added_sound s g.right w.label v.0 e
            (b.relation.over g.left g.right g.related).1 g.is_constraint w.below v.1),
        subst (λ (z : Conf). AddedPair s R z (with_added s e v.0)) (sym w.is)
            (added_pair s R e g.is_constraint w.target v.0 v.2),
      )

  -- ∼s is inside ∼sb
  pub syntactic_saturated : WellFormed s → (x y : Conf) → SyntacticBisimilar s x y → SaturatedBarbedBisimilar s x y
  syntactic_saturated wf x y b = record {
    relation = AddedPair s b.relation;
    is_such = record {
      relation = pairs_symmetric s wf b.relation b.is_such.relation;
      barbs = pairs_barbs s wf b.relation b.is_such.relation b.is_such.barbs;
      reductions = syntactic_answer b.relation b.is_such;
      upward = pairs_upward s wf b.relation b.is_such.relation;
    };
    contains = related_pair s wf b.relation b.is_such.relation x y b.contains;
  }
