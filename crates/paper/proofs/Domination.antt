-- An irredundant bisimulation whose redundancy is decidable: every transition is dominated by an irredundant one, so pairs with a
-- constraint added to both sides answer each other's reductions, by chains.
use Rattle.std.specs.Prelude.{refl, ℕ, zero, suc, ◌<◌}
use Rattle.std.proofs.Common.{sym, ap, ◌∙◌, subst, arith}
use Rattle.comparison_laws.specs.FactSets.{Within}
use Rattle.comparison_laws.specs.FactSetLaws.{within_refl, within_trans, within_le}
use Rattle.comparison_laws.specs.StoreLaws.{join_left, join_right}
use Rattle.comparison_laws.specs.Sheet.{Sheet}
use Rattle.paper.specs.Terms.{Conf}
use Rattle.paper.specs.Bisimulations.{Con, Reduces, Moves, with_added, RedundantIn, IrredundantBisimulation}
use Rattle.paper.proofs.Adding.{added_under, added_sound, Origin, origin}
use Rattle.paper.proofs.Chains.{Chain, one, more}
use Rattle.paper.proofs.AddedPairs.{AddedPair, added_pair}

module _ (s : Sheet) (R : Conf → Conf → Type 0) (b : IrredundantBisimulation s R)
    (redundant_dec : (x : Conf) (a : ℕ) (t : Conf) → Dec (RedundantIn s R x a t)) where
  -- an irredundant transition of x with a label below a, whose target may stand for t under every constraint above a
  record Dominant (x : Conf) (a : ℕ) (t : Conf) : Type 0 where
    pub label : ℕ
    pub after : Conf
    pub below : Within label a
    pub transition : Moves s x label after
    pub irredundant : RedundantIn s R x label after → ⊥
    pub alike : (e : ℕ) → Con s e → Within a e → (z : Conf) → Chain (AddedPair s R) (with_added s e after) z
        → Chain (AddedPair s R) (with_added s e t) z

  dominated_within : (k : ℕ) (x : Conf) (a : ℕ) (t : Conf) → a < k → Moves s x a t → Dominant x a t
  dominated_within zero x a t h m = absurd (omega arith)
  dominated_within (suc k) x a t h m = go (dominated_within k x) (redundant_dec x a t)
    where
      go : ((c : ℕ) (u : Conf) → c < k → Moves s x c u → Dominant x c u) → Dec (RedundantIn s R x a t) → Dominant x a t
      go ih (no r) =
          record { label = a; after = t; below = within_refl a; transition = m; irredundant = r; alike = λ e ce l z c. c }
      go ih (yes r) =
          let c : ℕ = r.label in
          let u : Conf = r.target in
          let v = r.dominates.derives in
          let l : Within c a = subst (λ (w : ℕ). Within c w) (sym v.label) (join_left s.rules c v.e) in
          let under : Within v.e a = subst (λ (w : ℕ). Within v.e w) (sym v.label) (join_right s.rules c v.e) in
          let d = ih c u (omega (arith, within_le l, v.differ)) r.transition in
          record {
            label = d.label;
            after = d.after;
            below = within_trans d.below l;
            transition = d.transition;
            irredundant = d.irredundant;
            alike = λ e ce g z chain.
                more
                (record {
                  constraint = e;
                  left = t;
                  right = r.dominates.between;
                  is_constraint = ce;
                  related = b.relation.symmetric r.dominates.between t r.dominates.related;
                  left_is = refl;
                  right_is = sym (ap (with_added s e) v.target ∙ added_under s u v.e e ce.closed (within_trans under g));
                })
                (d.alike e ce (within_trans l g) z chain);
          }

  -- every transition is dominated by an irredundant one
  dominated : (x : Conf) (a : ℕ) (t : Conf) → Moves s x a t → Dominant x a t
  dominated x a t m = dominated_within (suc a) x a t (omega arith) m

  -- the answer to the dominating transition, with the constraint added
  reply : {x y x' : Conf} (g : AddedPair s R x y) (w : Origin s g.left g.constraint x')
      (d : Dominant g.left w.label w.target)
      → (v : (y' : Conf) × Moves s g.right d.label y' × R d.after y') → (y' : Conf) × Reduces s y y' × Chain (AddedPair s R) x' y'
  reply g w d v =
      let u : Conf = with_added s g.constraint v.0 in (
        u,
        subst (λ (z : Conf). Reduces s z u) (sym g.right_is)
            (added_sound s g.right d.label v.0 g.constraint
            (b.relation.over g.left g.right g.related).1 g.is_constraint
            (within_trans d.below w.below) v.1),
        subst (λ (z : Conf). Chain (AddedPair s R) z u) (sym w.is)
            (d.alike g.constraint g.is_constraint w.below u
            (one (added_pair s R g.constraint g.is_constraint d.after v.0 v.2))),
      )

  pub pairs_answer : (x y x' : Conf) → AddedPair s R x y → Reduces s x x' → (y' : Conf) × Reduces s y y' × Chain (AddedPair s R) x' y'
  pairs_answer x y x' g m =
      let w = origin s g.left g.constraint x' g.is_constraint (subst (λ (v : Conf). Reduces s v x') g.left_is m) in
      let d = dominated g.left w.label w.target w.transition in
      reply g w d (b.transitions g.left g.right d.label d.after g.related d.transition d.irredundant)
