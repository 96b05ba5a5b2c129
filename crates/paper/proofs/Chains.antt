-- Chains of pairs of a relation. Where the relation is symmetric, keeps barbs, is upward closed and answers reductions by chains,
-- the chains are a saturated barbed bisimulation.
use Rattle.std.specs.Prelude.{ℕ}
use Rattle.comparison_laws.specs.FactSets.{Within}
use Rattle.comparison_laws.specs.Sheet.{Sheet}
use Rattle.paper.specs.Terms.{Conf}
use Rattle.paper.specs.Bisimulations.{Con, Reduces, with_added, Symmetric, KeepsBarbs, SaturatedBarbedBisimulation}

-- pairs joined end to end
pub data Chain (R : Conf → Conf → Type 0) : Conf → Conf → Type 0 where
  one : {x y : Conf} → R x y → Chain R x y
  more : {x y z : Conf} → R x y → Chain R y z → Chain R x z

pub chain_trans : {R : Conf → Conf → Type 0} {x y z : Conf} → Chain R x y → Chain R y z → Chain R x z
chain_trans (one r) d = more r d
chain_trans (more r c) d = more r (chain_trans c d)

module _ (s : Sheet) (R : Conf → Conf → Type 0) (relation : Symmetric s R) (barbs : KeepsBarbs s R)
    (reductions : (x y x' : Conf) → R x y → Reduces s x x' → (y' : Conf) × Reduces s y y' × Chain R x' y')
    (upward : (x y : Conf) → R x y → (a : ℕ) → Con s a → R (with_added s a x) (with_added s a y)) where
  chain_over : {x y : Conf} → Chain R x y → Con s x.store × Con s y.store
  chain_over (one {x} {y} r) = relation.over x y r
  chain_over (more {x} {y} r c) = ((relation.over x y r).0, (chain_over c).1)

  chain_sym : {x y : Conf} → Chain R x y → Chain R y x
  chain_sym (one {x} {y} r) = one (relation.symmetric x y r)
  chain_sym (more {x} {y} r c) = chain_trans (chain_sym c) (one (relation.symmetric x y r))

  chain_barbs : {x y : Conf} → Chain R x y → (c : ℕ) → Con s c → Within c x.store → Within c y.store
  chain_barbs (one {x} {y} r) c cc w = barbs x y r c cc w
  chain_barbs (more {x} {y} r l) c cc w = chain_barbs l c cc (barbs x y r c cc w)

  chain_reductions : {x y : Conf} (x' : Conf) → Chain R x y → Reduces s x x' → (y' : Conf) × Reduces s y y' × Chain R x' y'
  chain_reductions x' (one {x} {y} r) m = reductions x y x' r m
  chain_reductions x' (more {x} {y} r c) m =
      let a = reductions x y x' r m in
      let d = chain_reductions a.0 c a.1 in
      (d.0, d.1, chain_trans a.2 d.2)

  chain_upward : {x y : Conf} (a : ℕ) → Con s a → Chain R x y → Chain R (with_added s a x) (with_added s a y)
  chain_upward a ca (one {x} {y} r) = one (upward x y r a ca)
  chain_upward a ca (more {x} {y} r c) = more (upward x y r a ca) (chain_upward a ca c)

  pub chain_saturated : SaturatedBarbedBisimulation s (Chain R)
  chain_saturated = record {
    relation = record { over = λ x y c. chain_over c; symmetric = λ x y c. chain_sym c };
    barbs = λ x y c e ce w. chain_barbs c e ce w;
    reductions = λ x y x' c m. chain_reductions x' c m;
    upward = λ x y c a ca. chain_upward a ca c;
  }
