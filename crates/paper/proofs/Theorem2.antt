-- Source 001, Theorem 2: where finitely many configurations are reachable from the seeds, the set IS* is finite. Each member is
-- a reachable configuration with a constraint added, and a sheet has finitely many constraints.
use Rattle.std.specs.Prelude.{◌≡◌, ℕ}
use Rattle.std.proofs.Common.{sym, ap, ◌∙◌, subst}
use mathlib.Core.List.{List, map, Memᴰ}
use Rattle.comparison_laws.specs.Members.{map_mem, concat_map_mem}
use Rattle.comparison_laws.specs.Lists.{concat_map}
use Rattle.comparison_laws.specs.Stores.{least_store}
use Rattle.comparison_laws.specs.Sheet.{Configuration, Sheet}
use Rattle.comparison_laws.specs.WellFormed.{OfSheet, WellFormed}
use Rattle.comparison_laws.specs.Moves.{Moves, add, constraints}
use Rattle.comparison_laws.specs.LabelLaws.{constraints_all}
use Rattle.comparison_laws.specs.Refinement.{Member, seed, target, added}
use Rattle.comparison_laws.specs.LawfulMoves.{Lawful}
use Rattle.comparison_laws.specs.SheetTransitions.{transitions}
use Rattle.comparison_laws.specs.SheetMoves.{lawful}
use Rattle.comparison_laws.specs.Set.{explored}
use Rattle.paper.specs.Bisimulations.{Con}
use Rattle.paper.proofs.Proposition2.{Ends, limits_of, proposition_2_finite}

-- Config(IS): the seeds and what is reached from them by moves
pub data Reachable (s : Sheet) (seeds : List Configuration) : Configuration → Type 0 where
  start : {p : Configuration} → Memᴰ p seeds → Reachable s seeds p
  next : {p t : Configuration} {a : ℕ} → Reachable s seeds p → Moves s p a t → Reachable s seeds t

module _ (s : Sheet) (wf : WellFormed s) (seeds : List Configuration) (of : (p : Configuration) → Memᴰ p seeds → OfSheet s p) where
  abbrev L : Lawful (transitions s)
  L = lawful s wf

  -- p is a reachable configuration with a constraint added
  record Above (p : Configuration) : Type 0 where
    pub constraint : ℕ
    pub base : Configuration
    pub is_constraint : Con s constraint
    pub reachable : Reachable s seeds base
    pub is : p ≡ add s constraint base

  above_move : (p t : Configuration) (a : ℕ) → Above p → Moves s p a t → Above t
  above_move p t a h m =
      let e : ℕ = h.constraint in
      let r : Configuration = h.base in
      let ca : Con s a = L.move_constraint p a t m in
      let ce : Con s (L.join a e) = L.join_constraint a e ca h.is_constraint in
      let x = L.move_complete r t (L.join a e) ce
      (subst (λ (q : Configuration). Moves s q (least_store s.rules) t)
      (ap (add s a) h.is ∙ L.add_add a e r) (L.move_sound p a t m)) in
      record { constraint = L.join a e; base = x.1; is_constraint = ce; reachable = next h.reachable x.3; is = x.4 }

  above_add : (b : ℕ) (p : Configuration) → Con s b → Above p → Above (add s b p)
  above_add b p cb h = record {
    constraint = L.join b h.constraint;
    base = h.base;
    is_constraint = L.join_constraint b h.constraint cb h.is_constraint;
    reachable = h.reachable;
    is = ap (add s b) h.is ∙ L.add_add b h.constraint h.base;
  }

  member_above : {p : Configuration} → Member (transitions s) seeds p → Above p
  member_above (seed {p} m) = record {
    constraint = least_store s.rules;
    base = p;
    is_constraint = L.least_constraint;
    reachable = start m;
    is = sym (L.add_least p (of p m));
  }
  member_above (target {p} {t} {a} m k) = above_move p t a (member_above m) k
  member_above (added {p} {u} {t} {a} {b} m k l n) = above_add b u (L.move_constraint p b t l) (above_move p u a (member_above m) k)

  -- every constraint added to every configuration of a list
  abbrev pub with_all : List Configuration → List Configuration
  with_all ps = concat_map (λ e. map (add s e) ps) (constraints s)

  pub theorem_2 : (ps : List Configuration) → ((p : Configuration) → Reachable s seeds p → Memᴰ p ps)
      → (p : Configuration) → Member (transitions s) seeds p → Memᴰ p (with_all ps)
  theorem_2 ps all p m =
      let h = member_above m in
      subst (λ (q : Configuration). Memᴰ q (with_all ps)) (sym h.is)
      (concat_map_mem (λ e. map (add s e) ps) (constraints s) (constraints_all s h.constraint h.is_constraint)
      (map_mem (add s h.constraint) (all h.base h.reachable)))

  -- so the algorithm ends, and its result is ∼sb, where finitely many configurations are reachable
  pub reachable_ends : (first-seed : Configuration) → Memᴰ first-seed seeds → (ps : List Configuration)
      → ((p : Configuration) → Reachable s seeds p → Memᴰ p ps) → Ends s seeds (explored s (limits_of (with_all ps)) seeds)
  reachable_ends first-seed seeded ps all = proposition_2_finite s wf seeds of first-seed seeded (with_all ps) (theorem_2 ps all)
