-- What is redundant for the paper's transitions is redundant for the moves of document 01, in relations that agree on what they
-- read as.
use Rattle.std.proofs.Common.{sym, subst}
use Rattle.std.specs.Prelude.{ℕ}
use Rattle.comparison_laws.specs.Sheet.{Configuration, Sheet}
use Rattle.comparison_laws.specs.WellFormed.{WellFormed}
use Rattle.comparison_laws.specs.Moves.{add}
use Rattle.comparison_laws.specs.Refinement.{Redundant}
use Rattle.comparison_laws.specs.SheetTransitions.{transitions}
use Rattle.paper.specs.Terms.{Conf, Reads}
use Rattle.paper.specs.Bisimulations.{Moves, with_added, RedundantIn}
use Rattle.paper.proofs.Agreement.{transition_constraint}
use Rattle.paper.proofs.Bridge.{transition_to_move, move_to_transition}
use Rattle.paper.proofs.Theorem3.{theorem_3, derives_above}
use Rattle.paper.proofs.Bisimilarity.{reads_added}

module _ (s : Sheet) (wf : WellFormed s) (R : Conf → Conf → Type 0) (symmetric : (x y : Conf) → R x y → R y x)
    (Q : Configuration → Configuration → Type 0) (x : Conf) (p : Configuration) (b : ℕ) (t : Conf) (u : Configuration)
    (rx : Reads s x p) (rt : Reads s t u) (m : Moves s x b t) where
  pub redundant_read : ((x y : Conf) (p q : Configuration) → R x y → Reads s x p → Reads s y q → Q p q)
      → RedundantIn s R x b t → Redundant (transitions s) Q p b u
  redundant_read f h =
      let a : ℕ = h.label in
      let k = transition_to_move s wf x p a h.target rx h.transition in
      let d = (theorem_3 s wf x a h.target b h.dominates.between h.transition (transition_constraint s wf m).constraint).0
      h.dominates.derives in (
        a,
        k.0,
        k.2,
        (d.0, d.1),
        f t h.dominates.between u (add s b k.0) (symmetric h.dominates.between t h.dominates.related) rt
            (subst (λ (y : Conf). Reads s y (add s b k.0)) (sym d.2) (reads_added s b k.1)),
      )

  pub redundant_written : ((x y : Conf) (p q : Configuration) → Q p q → Reads s x p → Reads s y q → R x y)
      → Redundant (transitions s) Q p b u → RedundantIn s R x b t
  redundant_written f h =
      let k = move_to_transition s wf x p h.0 h.1 rx h.2 in
      record {
        label = h.0;
        target = k.0;
        transition = k.1;
        dominates = record {
          between = with_added s b k.0;
          derives = derives_above s h.0 k.0 b (transition_constraint s wf m).constraint h.3.0 h.3.1;
          related = symmetric t (with_added s b k.0) (f t (with_added s b k.0) u (add s b h.1) h.4 rt (reads_added s b k.2));
        };
      }
