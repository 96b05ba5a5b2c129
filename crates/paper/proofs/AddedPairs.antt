-- Pairs of a relation with a constraint added to both sides: as symmetric, with the same barbs, and upward closed.
use Rattle.std.specs.Prelude.{◌≡◌, refl, ℕ}
use Rattle.std.proofs.Common.{sym, ap, ◌∙◌, subst}
use Rattle.comparison_laws.specs.FactSets.{Within}
use Rattle.comparison_laws.specs.Stores.{join, least_store}
use Rattle.comparison_laws.specs.Sheet.{Sheet}
use Rattle.comparison_laws.specs.WellFormed.{WellFormed}
use Rattle.comparison_laws.specs.LabelLaws.{least_constraint}
use Rattle.comparison_laws.specs.SheetMoves.{conclusions_fit, join_constraint}
use Rattle.paper.specs.Terms.{Conf}
use Rattle.paper.specs.Bisimulations.{Con, with_added, Symmetric, KeepsBarbs}
use Rattle.paper.proofs.Barbs.{same_stores}
use Rattle.paper.proofs.Adding.{added_least, added_twice}

-- two related configurations with a constraint added to both
pub record AddedPair (s : Sheet) (R : Conf → Conf → Type 0) (x y : Conf) : Type 0 where
  pub constraint : ℕ
  pub left : Conf
  pub right : Conf
  pub is_constraint : Con s constraint
  pub related : R left right
  pub left_is : x ≡ with_added s constraint left
  pub right_is : y ≡ with_added s constraint right

pub added_pair : (s : Sheet) (R : Conf → Conf → Type 0) (e : ℕ) → Con s e → (x y : Conf) → R x y
    → AddedPair s R (with_added s e x) (with_added s e y)
added_pair s R e ce x y r = record { constraint = e; left = x; right = y; is_constraint = ce; related = r; left_is = refl; right_is = refl }

module _ (s : Sheet) (wf : WellFormed s) (R : Conf → Conf → Type 0) (relation : Symmetric s R) where
  -- a pair with nothing added
  pub related_pair : (x y : Conf) → R x y → AddedPair s R x y
  related_pair x y r =
      let o = relation.over x y r in
      record {
        constraint = least_store s.rules;
        left = x;
        right = y;
        is_constraint = least_constraint s (conclusions_fit s wf);
        related = r;
        left_is = sym (added_least s x o.0);
        right_is = sym (added_least s y o.1);
      }

  pub pairs_symmetric : Symmetric s (AddedPair s R)
  pairs_symmetric = record {
    over = λ x y g.
        let o = relation.over g.left g.right g.related in (
          subst (λ (z : Conf). Con s z.store) (sym g.left_is)
              (join_constraint s wf g.left.store g.constraint o.0 g.is_constraint),
          subst (λ (z : Conf). Con s z.store) (sym g.right_is)
              (join_constraint s wf g.right.store g.constraint o.1 g.is_constraint),
        );
    symmetric = λ x y g. record {
      constraint = g.constraint;
      left = g.right;
      right = g.left;
      is_constraint = g.is_constraint;
      related = relation.symmetric g.left g.right g.related;
      left_is = g.right_is;
      right_is = g.left_is;
    };
  }

  pub pairs_barbs : KeepsBarbs s R → KeepsBarbs s (AddedPair s R)
  pairs_barbs keeps x y g c cc w =
      subst (λ (d : ℕ). Within c d)
      (ap (λ (z : Conf). z.store) g.left_is
      ∙ ap (λ (d : ℕ). join s.rules d g.constraint) (same_stores s R relation keeps g.left g.right g.related)
      ∙ sym (ap (λ (z : Conf). z.store) g.right_is)) w

  pub pairs_upward : (x y : Conf) → AddedPair s R x y → (a : ℕ) → Con s a → AddedPair s R (with_added s a x) (with_added s a y)
  pairs_upward x y g a ca = record {
    constraint = join s.rules g.constraint a;
    left = g.left;
    right = g.right;
    is_constraint = join_constraint s wf g.constraint a g.is_constraint ca;
    related = g.related;
    left_is = ap (with_added s a) g.left_is ∙ added_twice s g.left g.constraint a;
    right_is = ap (with_added s a) g.right_is ∙ added_twice s g.right g.constraint a;
  }
