-- Processes that tell and ask constraints of the sheet only stay so, and the store stays a constraint; so each of them is
-- saturated barbed bisimilar to itself at a constraint. A process that tells a number outside the sheet's sets is bisimilar
-- to none, itself included: the store that it makes is no constraint.
use Rattle.std.specs.Prelude.{◌≡◌, refl, Bool, true, false, ℕ, ◌^◌, ◌≤◌, length, ltb}
use Rattle.std.proofs.Common.{sym, ap, subst, arith, ltb-true, ltb-false}
use Rattle.std.proofs.Math.ListN.{get_or-eq_default}
use Rattle.comparison_laws.specs.FactSets.{Within}
use Rattle.comparison_laws.specs.FactSetLaws.{within_le}
use Rattle.comparison_laws.specs.Stores.{join}
use Rattle.comparison_laws.specs.StoreLaws.{join_right}
use Rattle.comparison_laws.specs.Sheet as sheet
use Rattle.comparison_laws.specs.Sheet.{Node, Sheet, node_of}
use Rattle.comparison_laws.specs.WellFormed.{NodeFits, WellFormed}
use Rattle.comparison_laws.specs.SheetMoves.{join_constraint}
use Rattle.paper.specs.Terms.{Term, nil, tell, ask, parallel, choice, call, Conf, body_of, defined}
use Rattle.paper.specs.Tables.{Reduction, R1, R2, R3_left, R3_right, R4_left, R4_right, R6, Transition, LR1, LR2, LR3_left, LR3_right, LR4_left, LR4_right, LR6}
use Rattle.paper.specs.Bisimulations.{Con, with_added, SaturatedBarbedBisimulation, SaturatedBarbedBisimilar}
use Rattle.paper.specs.Constrained.{Constrained, of_nil, of_tell, of_ask, of_parallel, of_choice, of_call}

-- ---- the parts of such a process
told : {s : Sheet} {c : ℕ} → Constrained s (tell c) → Con s c
told (of_tell k) = k

asked : {s : Sheet} {c : ℕ} {p : Term} → Constrained s (ask c p) → Constrained s p
asked (of_ask k h) = h

sides : {s : Sheet} {p q : Term} → Constrained s (parallel p q) → Constrained s p × Constrained s q
sides (of_parallel h k) = (h, k)

branches : {s : Sheet} {p q : Term} → Constrained s (choice p q) → Constrained s p × Constrained s q
branches (of_choice h k) = (h, k)

module _ (s : Sheet) (wf : WellFormed s) where
  -- ---- what a node stands for
  body_constrained : (k : ℕ) (v : Node) → NodeFits s.facts s.rules (length s.nodes) k v → Constrained s (body_of v)
  body_constrained k sheet.stop h = of_nil
  body_constrained k (sheet.tell c) h = of_tell h
  body_constrained k (sheet.ask c q) h = of_ask h.0 of_call
  body_constrained k (sheet.both p q) h = of_parallel of_call of_call
  body_constrained k (sheet.either p q) h = of_choice of_call of_call

  pub defined_constrained : (k : ℕ) → Constrained s (defined s k)
  defined_constrained k = go (ltb k (length s.nodes)) refl
    where
      go : (b : Bool) → ltb k (length s.nodes) ≡ b → Constrained s (defined s k)
      go true e = body_constrained k (node_of s.nodes k) (wf.nodes_fit k (ltb-true k (length s.nodes) e))
      go false e =
          subst (λ (v : Node). Constrained s (body_of v))
          (sym (get_or-eq_default s.nodes sheet.stop (ltb-false k (length s.nodes) e))) of_nil

  -- ---- where such a process goes: to such a process, and from a constraint to a constraint
  pub transition_constrained : {p p' : Term} {d a d' : ℕ} → Transition s p d a p' d' → Constrained s p
      → Constrained s p' × (Con s d → Con s d')
  transition_constrained (LR1 c d) h = (of_nil, λ e. join_constraint s wf d c e (told h))
  transition_constrained (LR2 c d a p m) h = (asked h, λ e. join_constraint s wf d a e m.constraint)
  transition_constrained (LR3_left r) h = let x = transition_constrained r (sides h).0 in (of_parallel x.0 (sides h).1, x.1)
  transition_constrained (LR3_right r) h = let x = transition_constrained r (sides h).1 in (of_parallel (sides h).0 x.0, x.1)
  transition_constrained (LR4_left r) h = transition_constrained r (branches h).0
  transition_constrained (LR4_right r) h = transition_constrained r (branches h).1
  transition_constrained (LR6 {k} r) h = transition_constrained r (defined_constrained k)

  pub reduction_constrained : {p p' : Term} {d d' : ℕ} → Reduction s p d p' d' → Constrained s p
      → Constrained s p' × (Con s d → Con s d')
  reduction_constrained (R1 c d) h = (of_nil, λ e. join_constraint s wf d c e (told h))
  reduction_constrained (R2 c d p w) h = (asked h, λ e. e)
  reduction_constrained (R3_left r) h = let x = reduction_constrained r (sides h).0 in (of_parallel x.0 (sides h).1, x.1)
  reduction_constrained (R3_right r) h = let x = reduction_constrained r (sides h).1 in (of_parallel (sides h).0 x.0, x.1)
  reduction_constrained (R4_left r) h = reduction_constrained r (branches h).0
  reduction_constrained (R4_right r) h = reduction_constrained r (branches h).1
  reduction_constrained (R6 {k} r) h = reduction_constrained r (defined_constrained k)

-- ---- bisimilar to itself
-- the same configuration twice, of a process and a store of the sheet
record Itself (s : Sheet) (x y : Conf) : Type 0 where
  pub same : x ≡ y
  pub process : Constrained s x.term
  pub store : Con s x.store

itself_bisimulation : (s : Sheet) → WellFormed s → SaturatedBarbedBisimulation s (Itself s)
itself_bisimulation s wf = record {
  relation = record {
    over = λ x y h. (h.store, subst (λ (z : Conf). Con s z.store) h.same h.store);
    symmetric = λ x y h. record {
      same = sym h.same;
      process = subst (λ (z : Conf). Constrained s z.term) h.same h.process;
      store = subst (λ (z : Conf). Con s z.store) h.same h.store;
    };
  };
  barbs = λ x y h c k w. subst (λ (z : Conf). Within c z.store) h.same w;
  reductions = λ x y x' h r.
      let k = reduction_constrained s wf r h.process in (
        x',
        subst (λ (z : Conf). Reduction s z.term z.store x'.term x'.store) h.same r,
        record { same = refl; process = k.0; store = k.1 h.store },
      );
  upward = λ x y h a k. record {
    same = ap (with_added s a) h.same;
    process = h.process;
    store = join_constraint s wf x.store a h.store k;
  };
}

pub saturated_reflexive : (s : Sheet) → WellFormed s → (x : Conf) → Constrained s x.term → Con s x.store
    → SaturatedBarbedBisimilar s x x
saturated_reflexive s wf x h k =
    record { relation = Itself s; is_such = itself_bisimulation s wf; contains = record { same = refl; process = h; store = k } }

-- a process that tells a number outside the sheet's sets is bisimilar to nothing, itself included
pub unconstrained_apart : (s : Sheet) (n d : ℕ) → 2 ^ s.facts ≤ n → (y : Conf)
    → SaturatedBarbedBisimilar s (record { term = tell n; store = d }) y → ⊥
unconstrained_apart s n d large y b =
    let made : Conf = record { term = nil; store = join s.rules d n } in
    let z = b.is_such.reductions (record { term = tell n; store = d }) y made b.contains (R1 n d) in
    omega (arith, large, (b.is_such.relation.over made z.0 z.2).0.facts, within_le (join_right s.rules d n))
