-- Source 001, Theorem 3: a transition derives one with label b exactly where its own label is strictly below b, and then into
-- its own target with b added.
use Rattle.std.specs.Prelude.{◌≡◌, refl, ◌↔◌, ℕ}
use Rattle.std.proofs.Common.{sym, ap, ◌∙◌, subst}
use Rattle.comparison_laws.specs.FactSets.{Within}
use Rattle.comparison_laws.specs.Stores.{Closed, join}
use Rattle.comparison_laws.specs.StoreLaws.{join_left, join_assoc, within_join}
use Rattle.comparison_laws.specs.Sheet.{Sheet}
use Rattle.comparison_laws.specs.WellFormed.{WellFormed}
use Rattle.paper.specs.Terms.{Conf}
use Rattle.paper.specs.Bisimulations.{Con, Moves, with_added, Derives}
use Rattle.paper.proofs.Agreement.{join_inside, transition_constraint}

module _ (s : Sheet) where
  -- where d has a already, joining a and e to it is joining e
  pub join_known : (d a e : ℕ) → Closed s.rules d → Within a d → join s.rules d (join s.rules a e) ≡ join s.rules d e
  join_known d a e c h = sym (join_assoc s.rules d a e) ∙ ap (λ (x : ℕ). join s.rules x e) (join_inside s d a c h)

  -- two added constraints that make the same store make the same configuration
  pub added_alike : (t : Conf) (a b : ℕ) → join s.rules t.store a ≡ join s.rules t.store b → with_added s a t ≡ with_added s b t
  added_alike t a b e = ap (λ (d : ℕ). record { term = t.term; store = d }) e

  -- a transition with a label strictly below b derives one into its target with b added
  pub derives_above : (a : ℕ) (t : Conf) (b : ℕ) → Con s b → Within a b → (a ≡ b → ⊥) → Derives s a t b (with_added s b t)
  derives_above a t b cb h n =
      record { e = b; constraint = cb; label = sym (within_join s.rules cb.closed h); target = refl; differ = n }

  pub theorem_3 : WellFormed s → (x : Conf) (a : ℕ) (t : Conf) (b : ℕ) (u : Conf) → Moves s x a t → Con s b
      → Derives s a t b u ↔ (Within a b × (a ≡ b → ⊥) × (u ≡ with_added s b t))
  theorem_3 wf x a t b u m cb =
      let l = transition_constraint s wf m in (
        (λ h. (
          subst (λ (c : ℕ). Within a c) (sym h.label) (join_left s.rules a h.e),
          h.differ,
          h.target ∙ added_alike t h.e b
              (sym (ap (join s.rules t.store) h.label ∙ join_known t.store a h.e l.closed l.inside)),
        )),
        (λ h. subst (λ (v : Conf). Derives s a t b v) (sym h.2) (derives_above a t b cb h.0 h.1)),
      )
