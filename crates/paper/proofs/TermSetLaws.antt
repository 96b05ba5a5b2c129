-- Source 001, Theorem 2, over the paper's own configurations of any processes: where finitely many are reachable from the
-- seeds, IS* is finite. Each of it is a reachable one with a constraint joined to its store. So Algorithm 2 ends (Proposition 2).
use Rattle.std.specs.Prelude.{◌≡◌, ℕ}
use Rattle.std.proofs.Common.{sym, ap, ◌∙◌, subst}
use mathlib.Core.List.{List, map, Memᴰ}
use Rattle.comparison_laws.specs.Members.{mem_map, map_mem, concat_map_mem}
use Rattle.comparison_laws.specs.Lists.{concat_map}
use Rattle.comparison_laws.specs.Stores.{Closed, join, least_store}
use Rattle.comparison_laws.specs.StoreLaws.{join_closed}
use Rattle.comparison_laws.specs.Sheet.{Configuration, Sheet}
use Rattle.comparison_laws.specs.WellFormed.{OfSheet, WellFormed}
use Rattle.comparison_laws.specs.Moves.{constraints}
use Rattle.comparison_laws.specs.LabelLaws.{constraints_all, least_constraint}
use Rattle.comparison_laws.specs.SheetMoves.{conclusions_fit, join_constraint}
use Rattle.paper.specs.Terms.{Conf, Reads}
use Rattle.paper.specs.Bisimulations.{Con, Reduces, Moves, with_added}
use Rattle.paper.proofs.Agreement.{transition_sound, transition_constraint}
use Rattle.paper.proofs.Adding.{added_least, added_twice, origin}
use Rattle.paper.specs.Algorithm.{Starred, IS, RS, RD}
use Rattle.paper.proofs.ReadsOfSheet.{reads_of_sheet}
use Rattle.paper.proofs.AlgorithmLaws.{reading_of, reads_one, SeedsAgree}
use Rattle.paper.proofs.Proposition2.{EndsAs, algorithm_2_finite}
use Rattle.paper.specs.TermSets.{ReachableTerm, start, next, with_all_terms}

module _ (s : Sheet) (wf : WellFormed s) (seeds : List Conf) (of : (x : Conf) → Memᴰ x seeds → Con s x.store) where
  -- x is a reachable configuration with a constraint joined to its store
  record Above (x : Conf) : Type 0 where
    pub constraint : ℕ
    pub base : Conf
    pub is_constraint : Con s constraint
    pub reachable : ReachableTerm s seeds base
    pub is : x ≡ with_added s constraint base

  -- whatever is told, the store is closed
  above_closed : (x : Conf) → Above x → Closed s.rules x.store
  above_closed x h =
      subst (λ (y : Conf). Closed s.rules y.store) (sym h.is) (join_closed s.rules h.base.store h.constraint)

  -- a transition of x is a reduction with its label added, and so one of the reachable configuration with both added
  above_move : (x t : Conf) (a : ℕ) → Above x → Moves s x a t → Above t
  above_move x t a h m =
      let e : ℕ = join s.rules h.constraint a in
      let ce : Con s e = join_constraint s wf h.constraint a h.is_constraint (transition_constraint s wf m).constraint in
      let reduces : Reduces s (with_added s e h.base) t =
      subst (λ (y : Conf). Reduces s y t) (ap (with_added s a) h.is ∙ added_twice s h.base h.constraint a)
      (transition_sound s (above_closed x h) m) in
      let o = origin s h.base e t ce reduces in
      record { constraint = e; base = o.target; is_constraint = ce; reachable = next h.reachable o.transition; is = o.is }

  above_add : (b : ℕ) (x : Conf) → Con s b → Above x → Above (with_added s b x)
  above_add b x cb h = record {
    constraint = join s.rules h.constraint b;
    base = h.base;
    is_constraint = join_constraint s wf h.constraint b h.is_constraint cb;
    reachable = h.reachable;
    is = ap (with_added s b) h.is ∙ added_twice s h.base h.constraint b;
  }

  starred_above : {x : Conf} → Starred s seeds x → Above x
  starred_above (IS {x} m) = record {
    constraint = least_store s.rules;
    base = x;
    is_constraint = least_constraint s (conclusions_fit s wf);
    reachable = start m;
    is = sym (added_least s x (of x m));
  }
  starred_above (RS {x} {t} {a} h m) = above_move x t a (starred_above h) m
  starred_above (RD {x} {t} {t'} {u} {a} {b} h m k d) =
      subst (λ (y : Conf). Above y) (sym d.target) (above_add d.e t d.constraint (above_move x t a (starred_above h) m))

-- Theorem 2
pub theorem_2_terms : (s : Sheet) → WellFormed s → (seeds : List Conf) → ((x : Conf) → Memᴰ x seeds → Con s x.store)
    → (xs : List Conf) → ((x : Conf) → ReachableTerm s seeds x → Memᴰ x xs)
    → (x : Conf) → Starred s seeds x → Memᴰ x (with_all_terms s xs)
theorem_2_terms s wf seeds of xs all x m =
    let h = starred_above s wf seeds of m in
    subst (λ (y : Conf). Memᴰ y (with_all_terms s xs)) (sym h.is)
    (concat_map_mem (λ e. map (with_added s e) xs) (constraints s) (constraints_all s h.constraint h.is_constraint)
    (map_mem (with_added s h.constraint) (all h.base h.reachable)))

-- Proposition 2 with Theorem 2: where finitely many configurations are reachable from processes made of nodes, Algorithm 2 ends,
-- and the blocks of its last partition are those of ∼sb.
pub reachable_terms_end : (s : Sheet) → WellFormed s → (starts : List Conf) → ((x : Conf) → Memᴰ x starts → Con s x.store)
    → ((x : Conf) → Memᴰ x starts → (p : Configuration) × Reads s x p) → (first-start : Conf) → Memᴰ first-start starts
    → (xs : List Conf) → ((x : Conf) → ReachableTerm s starts x → Memᴰ x xs) → EndsAs s starts
reachable_terms_end s wf starts of reads first-start started xs all =
    algorithm_2_finite s wf seeds in_sheet (reading_of s first-start) (map_mem (reading_of s) started)
    starts agree (with_all_terms s xs) (theorem_2_terms s wf starts of xs all)
  where
    seeds : List Configuration
    seeds = map (reading_of s) starts

    read : (x : Conf) → Memᴰ x starts → Reads s x (reading_of s x)
    read x m = let r = reads x m in subst (Reads s x) (reads_one s x r.0 r.1) r.1

    written : (p : Configuration) → Memᴰ p seeds → (x : Conf) × Memᴰ x starts × Reads s x p
    written p m = let x = mem_map (reading_of s) starts m in (x.0, x.1, subst (Reads s x.0) (sym x.2) (read x.0 x.1))

    agree : SeedsAgree s starts seeds
    agree = record { read = λ x m. (reading_of s x, map_mem (reading_of s) m, read x m); written = written }

    in_sheet : (p : Configuration) → Memᴰ p seeds → OfSheet s p
    in_sheet p m = let x = written p m in reads_of_sheet s wf x.0 p (of x.0 x.1) x.2
