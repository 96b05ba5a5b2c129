-- Laws of adding a constraint to one of the paper's configurations, and the transitions that the reductions come from then.
use Rattle.std.specs.Prelude.{◌≡◌, ℕ}
use Rattle.std.proofs.Common.{ap, subst}
use Rattle.comparison_laws.specs.FactSets.{Within}
use Rattle.comparison_laws.specs.Stores.{Closed, join, least_store}
use Rattle.comparison_laws.specs.StoreLaws.{join_assoc}
use Rattle.comparison_laws.specs.Sheet.{Sheet}
use Rattle.paper.specs.Terms.{Conf}
use Rattle.paper.specs.Tables.{Reduction}
use Rattle.paper.specs.Bisimulations.{Con, Reduces, Moves, with_added}
use Rattle.paper.proofs.Agreement.{join_least_store, join_under, join_inside, transition_sound, transition_complete, reduction_more}

module _ (s : Sheet) where
  -- the same process at another store
  abbrev pub at : Conf → ℕ → Conf
  at x d = record { term = x.term; store = d }

  -- ---- adding
  pub added_under : (x : Conf) (a e : ℕ) → Closed s.rules e → Within a e → with_added s e (with_added s a x) ≡ with_added s e x
  added_under x a e c h = ap (at x) (join_under s x.store a e c h)

  pub added_there : (x : Conf) (a : ℕ) → Closed s.rules x.store → Within a x.store → with_added s a x ≡ x
  added_there x a c h = ap (at x) (join_inside s x.store a c h)

  pub added_least : (x : Conf) → Con s x.store → with_added s (least_store s.rules) x ≡ x
  added_least x c = ap (at x) (join_least_store s x.store c.closed)

  pub added_twice : (x : Conf) (a e : ℕ) → with_added s e (with_added s a x) ≡ with_added s (join s.rules a e) x
  added_twice x a e = ap (at x) (join_assoc s.rules x.store a e)

  -- a transition with a label below e is a reduction once e is added
  pub added_sound : (x : Conf) (a : ℕ) (t : Conf) (e : ℕ) → Con s x.store → Con s e → Within a e → Moves s x a t
      → Reduces s (with_added s e x) (with_added s e t)
  added_sound x a t e cx ce l m =
      subst (λ (d : ℕ). Reduction s x.term d t.term (join s.rules t.store e)) (join_under s x.store a e ce.closed l)
      (reduction_more s e (transition_sound s cx.closed m))

  -- every reduction with e added is such a transition
  pub record Origin (x : Conf) (e : ℕ) (t : Conf) : Type 0 where
    pub label : ℕ
    pub target : Conf
    pub below : Within label e
    pub transition : Moves s x label target
    pub is : t ≡ with_added s e target

  pub origin : (x : Conf) (e : ℕ) (t : Conf) → Con s e → Reduces s (with_added s e x) t → Origin x e t
  origin x e t ce r =
      let w = transition_complete s x.store e ce r in
      record { label = w.0; target = record { term = t.term; store = w.1 }; below = w.2; transition = w.3; is = ap (at t) w.4 }
