-- Algorithm 2 over the paper's configurations is document 01's set and rounds over the configurations that they are.
use Rattle.std.specs.Prelude.{◌≡◌, refl, ◌↔◌, ℕ, zero, suc}
use Rattle.std.proofs.Common.{sym, ap, ap₂, ◌∙◌, subst}
use mathlib.Core.List.{List, [], ◌++◌, map, Memᴰ}
use Rattle.comparison_laws.specs.Members.{map_mem}
use Rattle.comparison_laws.specs.Lists.{sort_up}
use Rattle.comparison_laws.specs.Sheet.{Node, Configuration, Sheet, opened}
use Rattle.comparison_laws.specs.WellFormed.{WellFormed}
use Rattle.comparison_laws.specs.Moves.{add}
use Rattle.comparison_laws.specs.Refinement.{Member, seed, target, added, Answered, Round}
use Rattle.comparison_laws.specs.SheetTransitions.{transitions}
use Rattle.paper.specs.Terms.{Term, nil, tell, ask, parallel, choice, call, Conf, Opens, opens_nil, opens_call, opens_parallel, Reads}
use Rattle.paper.specs.Bisimulations.{with_added}
use Rattle.paper.proofs.Agreement.{transition_constraint}
use Rattle.paper.proofs.Bridge.{transition_to_move, move_to_transition}
use Rattle.paper.proofs.Theorem3.{theorem_3, derives_above}
use Rattle.paper.proofs.Bisimilarity.{reads_added}
use Rattle.paper.proofs.Redundancy.{redundant_read, redundant_written}
use Rattle.paper.specs.Algorithm.{Starred, IS, RS, RD, IR, Partition}

-- ---- what a process reads as is one configuration
-- the threads that a process opens to, none where it is not made of nodes
abbrev pub threads_of : List Node → Term → List ℕ
threads_of nodes nil = []
threads_of nodes (tell c) = []
threads_of nodes (ask c p) = []
threads_of nodes (parallel p q) = threads_of nodes p ++ threads_of nodes q
threads_of nodes (choice p q) = []
threads_of nodes (call k) = opened nodes k

opens_threads : {nodes : List Node} {p : Term} {ts : List ℕ} → Opens nodes p ts → ts ≡ threads_of nodes p
opens_threads opens_nil = refl
opens_threads (opens_call k) = refl
opens_threads (opens_parallel o u) = ap₂ (λ (a b : List ℕ). a ++ b) (opens_threads o) (opens_threads u)

abbrev pub reading_of : Sheet → Conf → Configuration
reading_of s x = record { store = x.store; threads = sort_up (threads_of s.nodes x.term) }

pub reads_one : (s : Sheet) (x : Conf) (p : Configuration) → Reads s x p → p ≡ reading_of s x
reads_one s x p r =
    ap₂ (λ (d : ℕ) (ts : List ℕ). record { store = d; threads = ts }) r.same_store (r.in_order ∙ ap sort_up (opens_threads r.opens))

-- the paper's seeds are document 01's
pub record SeedsAgree (s : Sheet) (starts : List Conf) (seeds : List Configuration) : Type 0 where
  pub read : (x : Conf) → Memᴰ x starts → (p : Configuration) × Memᴰ p seeds × Reads s x p
  pub written : (p : Configuration) → Memᴰ p seeds → (x : Conf) × Memᴰ x starts × Reads s x p

module _ (s : Sheet) (wf : WellFormed s) where
  -- ---- the partitions
  partition_sym : (n : ℕ) (x y : Conf) → Partition s n x y → Partition s n y x
  partition_sym zero x y h = sym h
  partition_sym (suc n) x y h = (partition_sym n x y h.0, h.2, h.1)

  -- two relations that agree on what is read
  abbrev Into : (Conf → Conf → Type 0) → (Configuration → Configuration → Type 0) → Type 0
  Into P Q = (x y : Conf) (p q : Configuration) → P x y → Reads s x p → Reads s y q → Q p q

  abbrev OutOf : (Conf → Conf → Type 0) → (Configuration → Configuration → Type 0) → Type 0
  OutOf P Q = (x y : Conf) (p q : Configuration) → Q p q → Reads s x p → Reads s y q → P x y

  module _ (P : Conf → Conf → Type 0) (Q : Configuration → Configuration → Type 0) (symmetric : (x y : Conf) → P x y → P y x)
      (into : Into P Q) (out_of_lem : OutOf P Q) where
    refined_into : Into (IR s P) (Answered (transitions s) Q)
    refined_into x y p q h rx ry b t m irredundant =
        let w = move_to_transition s wf x p b t rx m in
        let v = h b w.0 w.1 (λ r. irredundant (redundant_read s wf P symmetric Q x p b w.0 t rx w.2 w.1 into r)) in
        let z = transition_to_move s wf y q b v.0 ry v.1 in
        (z.0, z.2, into w.0 v.0 t z.0 v.2 w.2 z.1)

    refined_out_of : OutOf (IR s P) (Answered (transitions s) Q)
    refined_out_of x y p q h rx ry a t m irredundant =
        let w = transition_to_move s wf x p a t rx m in
        let v = h a w.0 w.2 (λ r. irredundant (redundant_written s wf P symmetric Q x p a t w.0 rx w.1 m out_of_lem r)) in
        let z = move_to_transition s wf y q a v.0 ry v.1 in
        (z.0, z.1, out_of_lem t z.0 w.0 v.0 v.2 w.1 z.2)

  partitions_rounds : (n : ℕ) → Into (Partition s n) (Round (transitions s) n) × OutOf (Partition s n) (Round (transitions s) n)
  partitions_rounds zero = (
    (λ x y p q h rx ry. rx.same_store ∙ h ∙ sym ry.same_store),
    (λ x y p q h rx ry. sym rx.same_store ∙ h ∙ ry.same_store),
  )
  partitions_rounds (suc n) =
      let P : Conf → Conf → Type 0 = Partition s n in
      let Q : Configuration → Configuration → Type 0 = Round (transitions s) n in
      let ih = partitions_rounds n in
      let to : Into (IR s P) (Answered (transitions s) Q) = refined_into P Q (partition_sym n) ih.0 ih.1 in
      let from : OutOf (IR s P) (Answered (transitions s) Q) = refined_out_of P Q (partition_sym n) ih.0 ih.1 in (
        (λ x y p q h rx ry. (ih.0 x y p q h.0 rx ry, to x y p q h.1 rx ry, to y x q p h.2 ry rx)),
        (λ x y p q h rx ry. (ih.1 x y p q h.0 rx ry, from x y p q h.1 rx ry, from y x q p h.2 ry rx)),
      )

  -- Pⁿ of two processes is round n of the configurations that they are
  pub partition_round : (n : ℕ) (x y : Conf) (p q : Configuration) → Reads s x p → Reads s y q
      → Partition s n x y ↔ Round (transitions s) n p q
  partition_round n x y p q rx ry = ((λ h. (partitions_rounds n).0 x y p q h rx ry), (λ h. (partitions_rounds n).1 x y p q h rx ry))

  -- ---- the set
  module _ (starts : List Conf) (seeds : List Configuration) (agree : SeedsAgree s starts seeds) where
    -- what is in IS* is a member of document 01's set
    pub starred_member : {x : Conf} → Starred s starts x → (p : Configuration) × Member (transitions s) seeds p × Reads s x p
    starred_member (IS {x} i) = let p = agree.read x i in (p.0, seed p.1, p.2)
    starred_member (RS {x} {t} {a} h m) =
        let p = starred_member h in
        let q = transition_to_move s wf x p.0 a t p.2 m in
        (q.0, target p.1 q.2, q.1)
    starred_member (RD {x} {t} {t'} {u} {a} {b} h m k d) =
        let p = starred_member h in
        let q = transition_to_move s wf x p.0 a t p.2 m in
        let r = transition_to_move s wf x p.0 b t' p.2 k in
        let e = (theorem_3 s wf x a t b u m (transition_constraint s wf k).constraint).0 d in (
          add s b q.0,
          added p.1 q.2 r.2 (e.0, e.1),
          subst (λ (y : Conf). Reads s y (add s b q.0)) (sym e.2) (reads_added s b q.1),
        )

    -- and each member is in IS*, as some process
    pub member_starred : {p : Configuration} → Member (transitions s) seeds p → (x : Conf) × Starred s starts x × Reads s x p
    member_starred (seed {p} i) = let x = agree.written p i in (x.0, IS x.1, x.2)
    member_starred (target {p} {t} {a} h m) =
        let x = member_starred h in
        let y = move_to_transition s wf x.0 p a t x.2 m in
        (y.0, RS x.1 y.1, y.2)
    member_starred (added {p} {u} {t} {a} {b} h m k l) =
        let x = member_starred h in
        let y = move_to_transition s wf x.0 p a u x.2 m in
        let z = move_to_transition s wf x.0 p b t x.2 k in (
          with_added s b y.0,
          RD x.1 y.1 z.1 (derives_above s a y.0 b (transition_constraint s wf z.1).constraint l.0 l.1),
          reads_added s b y.2,
        )

    -- where the paper's IS* is finite, so is document 01's set
    pub finite_members : (xs : List Conf) → ((x : Conf) → Starred s starts x → Memᴰ x xs)
        → (p : Configuration) → Member (transitions s) seeds p → Memᴰ p (map (reading_of s) xs)
    finite_members xs all p m =
        let x = member_starred m in
        subst (λ (q : Configuration). Memᴰ q (map (reading_of s) xs)) (sym (reads_one s x.0 p x.2))
        (map_mem (reading_of s) (all x.0 x.1))
