-- Source 001, Examples 3 and 4 and the remark after Definition 4, of the paper's own processes and relations, read off the
-- running example of Figure 2; and two of its processes that Definition 4 relates.
use Rattle.std.specs.Prelude.{◌≡◌, refl, ◌↔◌, true, false, ℕ, get_or}
use Rattle.std.proofs.Common.{sym, ap, subst, ⊎_elim, arith}
use mathlib.Core.List.Memᴰ
use mathlib.Core.List.{List, [], ◌∷◌, Memᴰ}
use Rattle.comparison_laws.specs.TestLaws.{true_false}
use Rattle.comparison_laws.specs.Lists.{sort_up}
use Rattle.comparison_laws.specs.FactSets.{Within}
use Rattle.comparison_laws.specs.Stores.{closure, passes, pass, conclusions}
use Rattle.comparison_laws.specs.StoreLaws.{closed_by_closure}
use Rattle.comparison_laws.specs.Sheet.{Configuration, Sheet, open_within, opened}
use Rattle.comparison_laws.specs.WellFormed.{OfSheet, WellFormed}
use Rattle.comparison_laws.specs.Orders.{Move}
use Rattle.comparison_laws.specs.Moves.{labels, steps_within, moves, Moves as SheetMoves}
use Rattle.comparison_laws.specs.StableRounds.{member_of}
use Rattle.comparison_laws.specs.SheetTransitions.{transitions}
use Rattle.comparison_laws.specs.SheetMoves.{lawful}
use Rattle.comparison_laws.specs.CallLimits.{limits}
use Rattle.comparison_laws.specs.Classes.{numbered_from, share}
use Rattle.comparison_laws.specs.Set.{over, explored_from, explored}
use Rattle.comparison_laws.specs.Rounds.{refined, classes, rounds_from, rounds, result_of}
use Rattle.comparison_laws.specs.SetLaws.{explored_seeds}
use Rattle.comparison_laws.specs.Theorem.{whole, result_classes, member_some}
use Rattle.paper.specs.Terms.{nil, choice, call, Conf, opens_call, Reads}
use Rattle.paper.specs.Tables.{LR4_left}
use Rattle.paper.specs.Bisimulations.{Con, Moves, SyntacticBisimulation, SaturatedBarbedBisimilar, SyntacticBisimilar}
use Rattle.paper.specs.Constrained.{Constrained, of_call}
use Rattle.paper.proofs.ConstrainedLaws.{transition_constrained}
use Rattle.paper.proofs.Bridge.{transition_to_move, move_to_transition}
use Rattle.paper.proofs.Bisimilarity.{saturated_agrees}
use Rattle.paper.proofs.NodeSteps.{no_move, from_choice}
use Rattle.paper.specs.Algorithm.{IR, Partition}
use Rattle.paper.specs.Figure2.{sheet_of_paper, paper_admissible, paper_well_formed, members, seeds, conf, no_facts, z<5, z<7⊔x<7, z<5⊔x<7, z<5⊔x<5, T, P, P+Q, S, R+S, R'+S}

-- a node of the running example as one of the paper's processes, at a store
abbrev pub called : ℕ → ℕ → Conf
called k store = record { term = call k; store = store }

-- the paper's 0 at a store
abbrev pub ended : ℕ → Conf
ended store = record { term = nil; store = store }

seeds_of : (p : Configuration) → Memᴰ p seeds → OfSheet sheet_of_paper p
seeds_of p m =
    paper_admissible.starts_fit p
    (⊎_elim (λ (e : p ≡ conf R'+S no_facts). Memᴰ.tail (Memᴰ.tail (Memᴰ.head e)))
    (λ (k : Memᴰ p (conf S no_facts ∷ conf R+S no_facts ∷ [])).
    ⊎_elim (λ (e : p ≡ conf S no_facts). Memᴰ.head e)
    (λ (i : Memᴰ p (conf R+S no_facts ∷ [])). Memᴰ.tail (Memᴰ.head (Memᴰ.eq_of_singleton i))) (Memᴰ.cases_cons k))
    (Memᴰ.cases_cons m))

within_limits : over limits members ≡ false
unfolding closure passes pass conclusions moves steps_within labels open_within explored_from explored
within_limits = refl

-- the classes of the result's round
abbrev last : List ℕ
last = get_or (rounds sheet_of_paper members) (result_of (rounds sheet_of_paper members)) []

reads_called : (k store : ℕ) → opened sheet_of_paper.nodes k ≡ k ∷ [] → Reads sheet_of_paper (called k store) (conf (k ∷ []) store)
reads_called k store e =
    record { threads = opened sheet_of_paper.nodes k; opens = opens_call k; same_store = refl; in_order = ap sort_up (sym e) }

-- two members share a class of the result's round exactly when they are ∼sb
classes_agree : (k j store : ℕ) → opened sheet_of_paper.nodes k ≡ k ∷ [] → opened sheet_of_paper.nodes j ≡ j ∷ []
    → Memᴰ (conf (k ∷ []) store) members → Memᴰ (conf (j ∷ []) store) members
    → (share members last (conf (k ∷ []) store) (conf (j ∷ []) store) ≡ true)
    ↔ SaturatedBarbedBisimilar sheet_of_paper (called k store) (called j store)
classes_agree k j store ek ej mk mj =
    let p : Configuration = conf (k ∷ []) store in
    let q : Configuration = conf (j ∷ []) store in
    let wf = paper_well_formed in
    let of : (x : Configuration) → Memᴰ x members → OfSheet sheet_of_paper x =
    λ x m. member_of (transitions sheet_of_paper) (lawful sheet_of_paper wf) seeds seeds_of x
    ((whole sheet_of_paper wf limits seeds seeds_of within_limits x).0 m) in
    let some = member_some members (explored_seeds sheet_of_paper limits seeds (conf R'+S no_facts) (Memᴰ.head refl)) in
    let a = result_classes sheet_of_paper wf limits seeds seeds_of within_limits some p q mk mj in
    let b = saturated_agrees sheet_of_paper wf (called k store) (called j store) p q (of p mk) (of q mj)
    (reads_called k store ek) (reads_called j store ej) in
    ((λ h. b.1 (a.0 h)), (λ h. a.1 (b.0 h)))

-- Example 3: R + S and S are saturated barbed bisimilar at true, and P + Q and P at z < 5.
pub example_3 : SaturatedBarbedBisimilar sheet_of_paper (called 6 no_facts) (called 5 no_facts)
    × SaturatedBarbedBisimilar sheet_of_paper (called 3 z<5) (called 1 z<5)
unfolding closure passes pass conclusions moves steps_within labels open_within numbered_from refined classes rounds_from rounds explored_from explored
example_3 = (
  (classes_agree 6 5 no_facts refl refl (Memᴰ.tail (Memᴰ.head refl)) (Memᴰ.head refl)).0 refl,
  (classes_agree 3 1 z<5 refl refl
      (Memᴰ.tail (Memᴰ.tail (Memᴰ.tail (Memᴰ.tail (Memᴰ.tail (Memᴰ.head refl))))))
      (Memᴰ.tail (Memᴰ.tail (Memᴰ.tail (Memᴰ.tail (Memᴰ.head refl)))))).0 refl,
)

-- Example 4: P + Q' and P at z < 5 are not, nor are R' + S and S at true.
pub example_4 : (SaturatedBarbedBisimilar sheet_of_paper (called 9 z<5) (called 1 z<5) → ⊥)
    × (SaturatedBarbedBisimilar sheet_of_paper (called 11 no_facts) (called 5 no_facts) → ⊥)
unfolding closure passes pass conclusions moves steps_within labels open_within numbered_from refined classes rounds_from rounds explored_from explored
example_4 = (
  λ h. true_false false
      ((classes_agree 9 1 z<5 refl refl
      (Memᴰ.tail (Memᴰ.tail (Memᴰ.tail (Memᴰ.tail (Memᴰ.tail (Memᴰ.tail (Memᴰ.head refl)))))))
      (Memᴰ.tail (Memᴰ.tail (Memᴰ.tail (Memᴰ.tail (Memᴰ.head refl)))))).1 h) refl,
  λ h. true_false false
      ((classes_agree 11 5 no_facts refl refl (Memᴰ.tail (Memᴰ.tail (Memᴰ.head refl))) (Memᴰ.head refl)).1 h) refl,
)

-- ---- syntactic bisimilarity tells P + Q and P apart at z < 5, though they are ∼sb
-- P + Q has a transition with label x < 5
both_label : SheetMoves sheet_of_paper (conf P+Q z<5) 12 (conf T z<5⊔x<5)
unfolding closure passes pass conclusions moves steps_within labels open_within
both_label = Memᴰ.tail (Memᴰ.head refl)

-- P's only label is x < 7
one_label : (a : ℕ) (t : Configuration) → SheetMoves sheet_of_paper (conf P z<5) a t → a ≡ 4
unfolding closure passes pass conclusions moves steps_within labels open_within
one_label a t m = ap (λ (k : Move). k.label) (Memᴰ.eq_of_singleton m)

alone : (k : ℕ) → Memᴰ k (1 ∷ 3 ∷ []) → opened sheet_of_paper.nodes k ≡ k ∷ []
unfolding open_within
alone k m = ⊎_elim (λ (e : k ≡ 1). rw e) (λ (i : Memᴰ k (3 ∷ [])). rw (Memᴰ.eq_of_singleton i)) (Memᴰ.cases_cons m)

pub syntactic_apart : SyntacticBisimilar sheet_of_paper (called 3 z<5) (called 1 z<5) → ⊥
syntactic_apart b =
    let three = reads_called 3 z<5 (alone 3 (Memᴰ.tail (Memᴰ.head refl))) in
    let one = reads_called 1 z<5 (alone 1 (Memᴰ.head refl)) in
    let x = move_to_transition sheet_of_paper paper_well_formed (called 3 z<5) (conf P+Q z<5) 12 (conf T z<5⊔x<5) three both_label in
    let y = b.is_such.transitions (called 3 z<5) (called 1 z<5) 12 x.0 b.contains x.1 in
    let z = transition_to_move sheet_of_paper paper_well_formed (called 1 z<5) (conf P z<5) 12 y.0 one y.1 in
    let e : ◌≡◌ {A = ℕ} 12 4 = one_label 12 z.0 z.2 in
    omega arith

-- ---- IR as printed would fuse blocks: two final states with different stores are apart in P⁰, and IR(P⁰) relates them
pub printed_rule_fuses : (IR sheet_of_paper (Partition sheet_of_paper 0) (ended z<7⊔x<7) (ended z<5⊔x<7)
    × IR sheet_of_paper (Partition sheet_of_paper 0) (ended z<5⊔x<7) (ended z<7⊔x<7))
    × (Partition sheet_of_paper 0 (ended z<7⊔x<7) (ended z<5⊔x<7) → ⊥)
printed_rule_fuses = (
  ((λ a t m r. absurd (no_move sheet_of_paper m)), (λ a t m r. absurd (no_move sheet_of_paper m))),
  λ (e : ◌≡◌ {A = ℕ} z<7⊔x<7 z<5⊔x<7). omega arith,
)

-- ---- Definition 4 is not empty: P + P and P are syntactically bisimilar at z < 5, and have a transition there
-- the choice between a process and itself
abbrev pub twice : Conf → Conf
twice x = record { term = choice x.term x.term; store = x.store }

-- such a choice with its process, either way round, and a configuration with itself
data Doubled (s : Sheet) : Conf → Conf → Type 0 where
  doubled : {x : Conf} → Constrained s x.term → Con s x.store → Doubled s (twice x) x
  undoubled : {x : Conf} → Constrained s x.term → Con s x.store → Doubled s x (twice x)
  alike : {x : Conf} → Constrained s x.term → Con s x.store → Doubled s x x

module _ (s : Sheet) (wf : WellFormed s) where
  doubled_over : {x y : Conf} → Doubled s x y → Con s x.store × Con s y.store
  doubled_over (doubled h c) = (c, c)
  doubled_over (undoubled h c) = (c, c)
  doubled_over (alike h c) = (c, c)

  doubled_symmetric : {x y : Conf} → Doubled s x y → Doubled s y x
  doubled_symmetric (doubled h c) = undoubled h c
  doubled_symmetric (undoubled h c) = doubled h c
  doubled_symmetric (alike h c) = alike h c

  doubled_stores : {x y : Conf} → Doubled s x y → x.store ≡ y.store
  doubled_stores (doubled h c) = refl
  doubled_stores (undoubled h c) = refl
  doubled_stores (alike h c) = refl

  -- what a transition leads to is with itself
  target_alike : (x : Conf) (a : ℕ) (t : Conf) → Constrained s x.term → Con s x.store → Moves s x a t → Doubled s t t
  target_alike x a t h c m = let k = transition_constrained s wf m h in alike k.0 (k.1 c)

  doubled_transitions : {x y : Conf} (a : ℕ) (t : Conf) → Doubled s x y → Moves s x a t → (u : Conf) × Moves s y a u × Doubled s t u
  doubled_transitions a t (doubled {x} h c) m =
      let r : Moves s x a t = ⊎_elim (λ (l : Moves s x a t). l) (λ (l : Moves s x a t). l) (from_choice s m) in
      (t, r, target_alike x a t h c r)
  doubled_transitions a t (undoubled {x} h c) m = (t, LR4_left m, target_alike x a t h c m)
  doubled_transitions a t (alike {x} h c) m = (t, m, target_alike x a t h c m)

  doubled_bisimulation : SyntacticBisimulation s (Doubled s)
  doubled_bisimulation = record {
    relation = record { over = λ x y h. doubled_over h; symmetric = λ x y h. doubled_symmetric h };
    barbs = λ x y h c k w. subst (λ (d : ℕ). Within c d) (doubled_stores h) w;
    transitions = λ x y a t h m. doubled_transitions a t h m;
  }

z<5_constraint : Con sheet_of_paper z<5
unfolding closure passes pass conclusions
z<5_constraint = record { closed = closed_by_closure sheet_of_paper.rules z<5 refl; facts = omega arith }

pub syntactic_example : SyntacticBisimilar sheet_of_paper (record { term = choice (call 1) (call 1); store = z<5 }) (called 1 z<5)
syntactic_example = record {
  relation = Doubled sheet_of_paper;
  is_such = doubled_bisimulation sheet_of_paper paper_well_formed;
  contains = doubled of_call z<5_constraint;
}

-- the two have a transition, with label x < 7
P_label : SheetMoves sheet_of_paper (conf P z<5) 4 (conf T z<5⊔x<7)
unfolding closure passes pass conclusions moves steps_within labels open_within
P_label = Memᴰ.head refl

pub syntactic_example_moves : (t : Conf) × Moves sheet_of_paper (twice (called 1 z<5)) 4 t × Moves sheet_of_paper (called 1 z<5) 4 t
syntactic_example_moves =
    let x = move_to_transition sheet_of_paper paper_well_formed (called 1 z<5) (conf P z<5) 4 (conf T z<5⊔x<7)
    (reads_called 1 z<5 (alone 1 (Memᴰ.head refl))) P_label in
    (x.0, LR4_left x.1, x.1)
