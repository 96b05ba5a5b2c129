-- Source 001, Theorem 1: irredundant bisimilarity is saturated barbed bisimilarity. From ∼sb to ∼I without conditions; back
-- where it is decidable which transitions are redundant, and without that for the members of a comparison's set. For all
-- configurations the two are the same where every question is decided: a premise of `theorem_1_decided`, no axiom.
use Rattle.std.specs.Prelude.{◌↔◌, ℕ}
use mathlib.Core.List.{List, Memᴰ}
use Rattle.comparison_laws.specs.Sheet.{Configuration, Sheet}
use Rattle.comparison_laws.specs.WellFormed.{OfSheet, WellFormed}
use Rattle.comparison_laws.specs.Refinement.{Member, Bisimilar}
use Rattle.comparison_laws.specs.StableRounds.{Stable, member_of, stable_bisimilar}
use Rattle.comparison_laws.specs.SheetTransitions.{transitions}
use Rattle.comparison_laws.specs.SheetMoves.{lawful}
use Rattle.paper.specs.Terms.{Conf, Reads}
use Rattle.paper.specs.Bisimulations.{RedundantIn, SaturatedBarbedBisimulation, IrredundantBisimulation, SaturatedBarbedBisimilar, IrredundantBisimilar}
use Rattle.paper.proofs.Bisimilarity.{saturated_agrees}
use Rattle.paper.proofs.Chains.{Chain, one, chain_trans, chain_saturated}
use Rattle.paper.proofs.AddedPairs.{AddedPair, related_pair, pairs_symmetric, pairs_barbs, pairs_upward}
use Rattle.paper.proofs.Irredundant.{transitive_irredundant}
use Rattle.paper.proofs.Domination.{pairs_answer}
use Rattle.paper.proofs.IrredundantRounds.{irredundant_round}

module _ (s : Sheet) (wf : WellFormed s) where
  -- ∼sb is inside ∼I
  pub saturated_irredundant : (x y : Conf) → SaturatedBarbedBisimilar s x y → IrredundantBisimilar s x y
  saturated_irredundant x y b =
      let R : Conf → Conf → Type 0 = b.relation in
      let k = b.is_such in
      let chains : SaturatedBarbedBisimulation s (Chain R) =
      chain_saturated s R k.relation k.barbs
      (λ x y x' r m. let a = k.reductions x y x' r m in (a.0, a.1, one a.2)) k.upward in
      record {
        relation = Chain R;
        is_such = transitive_irredundant s wf (Chain R) chains (λ x y z c d. chain_trans c d);
        contains = one b.contains;
      }

  -- an irredundant bisimulation whose redundancy is decidable is inside ∼sb
  pub irredundant_saturated : (R : Conf → Conf → Type 0) → IrredundantBisimulation s R
      → ((x : Conf) (a : ℕ) (t : Conf) → Dec (RedundantIn s R x a t)) → (x y : Conf) → R x y → SaturatedBarbedBisimilar s x y
  irredundant_saturated R b dec x y r = record {
    relation = Chain (AddedPair s R);
    is_such =
        chain_saturated s (AddedPair s R) (pairs_symmetric s wf R b.relation) (pairs_barbs s wf R b.relation b.barbs)
        (pairs_answer s R b dec) (pairs_upward s wf R b.relation);
    contains = one (related_pair s wf R b.relation x y r);
  }

  module _ (seeds : List Configuration) (of : (p : Configuration) → Memᴰ p seeds → OfSheet s p)
      (n : ℕ) (stable : Stable (transitions s) (lawful s wf) seeds n)
      (x y : Conf) (p q : Configuration) (mp : Member (transitions s) seeds p) (mq : Member (transitions s) seeds q)
      (rx : Reads s x p) (ry : Reads s y q) where
    -- the two sides of ∼sb for members of the set
    members_agree : SaturatedBarbedBisimilar s x y ↔ Bisimilar (transitions s) p q
    members_agree =
        saturated_agrees s wf x y p q (member_of (transitions s) (lawful s wf) seeds of p mp)
        (member_of (transitions s) (lawful s wf) seeds of q mq) rx ry

    -- For members of a comparison's set, of which some round splits none, nothing need be decided: ∼I is document 01's ∼sb.
    pub irredundant_members : IrredundantBisimilar s x y ↔ Bisimilar (transitions s) p q
    irredundant_members = (
      (λ i. (stable_bisimilar (transitions s) (lawful s wf) seeds of n stable p q mp mq).0
          (irredundant_round s wf i.relation i.is_such n x y p q i.contains rx ry)),
      (λ h. saturated_irredundant x y (members_agree.1 h)),
    )

    -- Theorem 1 for them: ∼I is ∼sb.
    pub theorem_1 : IrredundantBisimilar s x y ↔ SaturatedBarbedBisimilar s x y
    theorem_1 = ((λ i. members_agree.1 (irredundant_members.0 i)), saturated_irredundant x y)

  -- Theorem 1 for all configurations, where every question is decided
  pub theorem_1_decided : ((A : Type 0) → Dec A) → (x y : Conf) → IrredundantBisimilar s x y ↔ SaturatedBarbedBisimilar s x y
  theorem_1_decided decide x y = (
    (λ i. irredundant_saturated i.relation i.is_such (λ z a t. decide (RedundantIn s i.relation z a t)) x y i.contains),
    saturated_irredundant x y,
  )
