-- A transitive saturated barbed bisimulation is an irredundant bisimulation: an answer with a label strictly below would make
-- the transition redundant.
use Rattle.std.specs.Prelude.{◌≡◌, ℕ}
use Rattle.std.proofs.Common.{sym, ap, ◌∙◌, subst}
use Rattle.std.proofs.Math.Decide.{ℕ_discrete}
use Rattle.comparison_laws.specs.FactSets.{Within}
use Rattle.comparison_laws.specs.FactSetLaws.{within_trans, within_antisym}
use Rattle.comparison_laws.specs.Sheet.{Sheet}
use Rattle.comparison_laws.specs.WellFormed.{WellFormed}
use Rattle.paper.specs.Terms.{Conf}
use Rattle.paper.specs.Bisimulations.{Con, Reduces, Moves, with_added, RedundantIn, SaturatedBarbedBisimulation, IrredundantBisimulation}
use Rattle.paper.proofs.Agreement.{transition_sound, transition_constraint}
use Rattle.paper.proofs.Theorem3.{derives_above}
use Rattle.paper.proofs.Adding.{added_under, added_there, Origin, origin}

module _ (s : Sheet) (wf : WellFormed s) (R : Conf → Conf → Type 0) (b : SaturatedBarbedBisimulation s R)
    (transitive : (x y z : Conf) → R x y → R y z → R x z) where
  -- what y answers to x' once a is added to both
  abbrev Answer : Conf → ℕ → Conf → Type 0
  Answer y a x' = (y' : Conf) × Reduces s (with_added s a y) y' × R x' y'

  answer : (x y : Conf) (a : ℕ) (x' : Conf) → R x y → Con s a → Moves s x a x' → Answer y a x'
  answer x y a x' r ca m =
      b.reductions (with_added s a x) (with_added s a y) x' (b.upward x y r a ca)
      (transition_sound s (b.relation.over x y r).0.closed m)

  -- x answers the answer, and so had a transition that dominates
  redundant : (x y : Conf) (a : ℕ) (x' : Conf) → Con s a → (u : Answer y a x') → (w : Origin s y a u.0) → (w.label ≡ a → ⊥)
      → (v : Answer x w.label w.target) → Origin s x w.label v.0 → RedundantIn s R x a x'
  redundant x y a x' ca u w n v z = record {
    label = z.label;
    target = z.target;
    transition = z.transition;
    dominates = record {
      between = with_added s a z.target;
      derives =
          derives_above s z.label z.target a ca (within_trans {b = w.label} z.below w.below)
          (λ q. n (within_antisym w.below (subst (λ (c : ℕ). Within c w.label) q z.below)));
      related =
          b.relation.symmetric x' (with_added s a z.target)
          (transitive x' u.0 (with_added s a z.target) u.2
          (subst (λ (t : Conf). R t (with_added s a z.target)) (sym w.is)
          (subst (λ (t : Conf). R (with_added s a w.target) t)
          (ap (with_added s a) z.is ∙ added_under s z.target w.label a ca.closed w.below)
          (b.upward w.target v.0 v.2 a ca))));
    };
  }

  transitions : (x y : Conf) (a : ℕ) (x' : Conf) → R x y → Moves s x a x' → (RedundantIn s R x a x' → ⊥)
      → (y' : Conf) × Moves s y a y' × R x' y'
  transitions x y a x' r m irredundant =
      let ca : Con s a = (transition_constraint s wf m).constraint in
      let u = answer x y a x' r ca m in
      let w = origin s y a u.0 ca u.1 in
      go ca u w (ℕ_discrete w.label a)
    where
      go : Con s a → (u : Answer y a x') → (w : Origin s y a u.0) → Dec (w.label ≡ a) → (y' : Conf) × Moves s y a y' × R x' y'
      go ca u w (yes e) =
          let l = transition_constraint s wf w.transition in (
            w.target,
            subst (λ (c : ℕ). Moves s y c w.target) e w.transition,
            subst (λ (t : Conf). R x' t)
                (w.is ∙ added_there s w.target a l.closed (subst (λ (c : ℕ). Within c w.target.store) e l.inside)) u.2,
          )
      go ca u w (no n) =
          let cb : Con s w.label = (transition_constraint s wf w.transition).constraint in
          let v = answer y x w.label w.target (b.relation.symmetric x y r) cb w.transition in
          absurd (irredundant (redundant x y a x' ca u w n v (origin s x w.label v.0 cb v.1)))

  pub transitive_irredundant : IrredundantBisimulation s R
  transitive_irredundant = record { relation = b.relation; barbs = b.barbs; transitions = transitions }
