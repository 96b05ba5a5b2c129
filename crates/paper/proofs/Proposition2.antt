-- Source 001, Proposition 2: where the set IS* is finite, the algorithm ends, and the classes of its last round are those of
-- saturated barbed bisimilarity.
use Rattle.std.specs.Prelude.{◌≡◌, ◌↔◌, true, false, ℕ, suc, ◌+◌, ◌≤◌, ◌<◌, length, get_or, ltb}
use Rattle.std.proofs.Common.{sym, subst, ⊎_elim, arith, ltb-true}
use mathlib.Core.List.Memᴰ
use mathlib.Core.List.{List, [], ◌∷◌, map, Memᴰ}
use Rattle.comparison_laws.specs.TestLaws.{or_fails, Tested, tested, passes, fails}
use Rattle.comparison_laws.specs.Lists.{any}
use Rattle.comparison_laws.specs.Members.{any_yes}
use Rattle.comparison_laws.specs.Counting.{distinct_length, ascends_distinct}
use Rattle.comparison_laws.specs.Sheet.{Configuration, Sheet}
use Rattle.comparison_laws.specs.WellFormed.{OfSheet, WellFormed}
use Rattle.comparison_laws.specs.OrderLaws.{configuration_order}
use Rattle.comparison_laws.specs.Refinement.{Member}
use Rattle.comparison_laws.specs.StableRounds.{member_of, stable_bisimilar}
use Rattle.comparison_laws.specs.SheetTransitions.{transitions}
use Rattle.comparison_laws.specs.SheetMoves.{lawful}
use Rattle.comparison_laws.specs.CallLimits.{Limits}
use Rattle.comparison_laws.specs.Set.{over, explored}
use Rattle.comparison_laws.specs.Classes.{share}
use Rattle.comparison_laws.specs.Rounds.{classes, rounds, result_of}
use Rattle.comparison_laws.specs.SetLaws.{explored_seeds, explored_member, explored_ascends, explored_closed}
use Rattle.comparison_laws.specs.ResultLaws.{result_is, rounds_of, rounds_at}
use Rattle.comparison_laws.specs.Theorem.{whole, result_classes, result_round, member_some}
use Rattle.comparison_laws.specs.Promise.{ResultRound}
use Rattle.paper.specs.Terms.{Conf, Reads}
use Rattle.paper.specs.Bisimulations.{SaturatedBarbedBisimilar}
use Rattle.paper.proofs.Bisimilarity.{saturated_agrees}
use Rattle.paper.specs.Algorithm.{Starred, Partition}
use Rattle.paper.proofs.AlgorithmLaws.{SeedsAgree, partition_round, starred_member, member_starred, reading_of, reads_one, finite_members}

-- What the algorithm does with the seeds, where `set` is the list of members that it works on.
pub record Ends (s : Sheet) (seeds set : List Configuration) : Type 1 where
  -- the list is IS*
  pub whole : (p : Configuration) → Memᴰ p set ↔ Member (transitions s) seeds p
  -- some round, below the number of members, is the first one equal to its successor
  pub round : ℕ
  pub few : round < length set
  pub equal : classes s set (suc round) ≡ classes s set round
  pub first : (m : ℕ) → m < round → classes s set (suc m) ≡ classes s set m → ⊥
  -- its classes are those of ∼sb, whichever processes the members are written as
  pub coincides : (p q : Configuration) → Memᴰ p set → Memᴰ q set → (x y : Conf) → Reads s x p → Reads s y q
      → (share set (classes s set round) p q ≡ true) ↔ SaturatedBarbedBisimilar s x y

-- all threads of a list of configurations together
abbrev pub thread_count : List Configuration → ℕ
thread_count [] = 0
thread_count (p ∷ ps) = length p.threads + thread_count ps

threads_few : (ps : List Configuration) {p : Configuration} → Memᴰ p ps → length p.threads ≤ thread_count ps
threads_few [] m = absurd (Memᴰ.not-nil m)
threads_few (q ∷ qs) {p} m =
    ⊎_elim
    (λ (e : p ≡ q). subst (λ (x : Configuration). length p.threads ≤ length x.threads + thread_count qs) e (omega arith))
    (λ (k : Memᴰ p qs). omega (arith, threads_few qs k)) (Memᴰ.cases_cons m)

-- limits that a set inside the list does not pass
abbrev pub limits_of : List Configuration → Limits
limits_of ps = record { members = length ps; threads = thread_count ps; moves = 0 }

-- What the algorithm does with the paper's own configurations: some round is the first one that splits no block of IS*, and its
-- blocks are those of ∼sb.
pub record EndsAs (s : Sheet) (starts : List Conf) : Type 1 where
  pub round : ℕ
  -- it is below the number of members, those counted once that differ in order and 0 only: below the length of every list
  -- that has what each of them reads as
  pub few : (ps : List Configuration) → ((x : Conf) → Starred s starts x → Memᴰ (reading_of s x) ps) → round < length ps
  pub equal : (x y : Conf) → Starred s starts x → Starred s starts y → Partition s round x y → Partition s (suc round) x y
  pub first : (m : ℕ) → m < round
      → ((x y : Conf) → Starred s starts x → Starred s starts y → Partition s m x y → Partition s (suc m) x y) → ⊥
  pub coincides : (x y : Conf) → Starred s starts x → Starred s starts y → Partition s round x y ↔ SaturatedBarbedBisimilar s x y

module _ (s : Sheet) (wf : WellFormed s) (seeds : List Configuration) (of : (p : Configuration) → Memᴰ p seeds → OfSheet s p)
    (first-seed : Configuration) (seeded : Memᴰ first-seed seeds) where
  -- The set fits the limits of members and threads.
  pub proposition_2 : (l : Limits) → over l (explored s l seeds) ≡ false → Ends s seeds (explored s l seeds)
  proposition_2 l within =
      let set : List Configuration = explored s l seeds in
      let closed = explored_closed s l seeds within in
      let some : 1 ≤ length set = member_some set (explored_seeds s l seeds first-seed seeded) in
      let r = result_is s set wf closed some in
      let n : ℕ = result_of (rounds s set) in
      let at : get_or (rounds s set) n [] ≡ classes s set n =
      rounds_at s set wf closed some n (omega (arith, (rounds_of s set wf closed some).some)) in
      let member : (p : Configuration) → Memᴰ p set → OfSheet s p =
      λ p m. member_of (transitions s) (lawful s wf) seeds of p ((whole s wf l seeds of within p).0 m) in
      record {
        whole = whole s wf l seeds of within;
        round = n;
        few = r.few;
        equal = r.equal;
        first = r.first;
        coincides = λ p q mp mq x y rx ry.
            let a = result_classes s wf l seeds of within some p q mp mq in
            let b = saturated_agrees s wf x y p q (member p mp) (member q mq) rx ry in (
              (λ h. b.1 (a.0 (subst (λ (c : List ℕ). share set c p q ≡ true) (sym at) h))),
              (λ h. subst (λ (c : List ℕ). share set c p q ≡ true) at (a.1 (b.0 h))),
            );
      }

  -- ---- a set that is finite fits some limits
  -- the set that is worked on is no longer than a list that has all of it
  explored_few : (l : Limits) (ps : List Configuration)
      → ((p : Configuration) → Memᴰ p (explored s l seeds) → Memᴰ p ps) → length (explored s l seeds) ≤ length ps
  explored_few l ps inside =
      let set : List Configuration = explored s l seeds in
      distinct_length set ps (ascends_distinct configuration_order set (explored_ascends s l seeds)) inside

  finite_within : (ps : List Configuration) → ((p : Configuration) → Member (transitions s) seeds p → Memᴰ p ps)
      → over (limits_of ps) (explored s (limits_of ps) seeds) ≡ false
  finite_within ps all =
      or_fails (members (tested (ltb (length ps) (length set))))
      (threads (tested (any (λ p. ltb (thread_count ps) (length p.threads)) set)))
    where
      set : List Configuration
      set = explored s (limits_of ps) seeds

      inside : (p : Configuration) → Memᴰ p set → Memᴰ p ps
      inside p m = all p (explored_member s (limits_of ps) seeds p m)

      members : Tested (ltb (length ps) (length set)) → ltb (length ps) (length set) ≡ false
      members (fails e) = e
      members (passes e) =
          absurd (omega (arith, ltb-true (length ps) (length set) e, explored_few (limits_of ps) ps inside))

      threads : Tested (any (λ p. ltb (thread_count ps) (length p.threads)) set)
          → any (λ p. ltb (thread_count ps) (length p.threads)) set ≡ false
      threads (fails e) = e
      threads (passes e) =
          let x = any_yes (λ p. ltb (thread_count ps) (length p.threads)) set e in
          absurd (omega (arith, ltb-true (thread_count ps) (length x.0.threads) x.2, threads_few ps (inside x.0 x.1)))

  -- The set is finite: a list has all its members.
  pub proposition_2_finite : (ps : List Configuration) → ((p : Configuration) → Member (transitions s) seeds p → Memᴰ p ps)
      → Ends s seeds (explored s (limits_of ps) seeds)
  proposition_2_finite ps all = proposition_2 (limits_of ps) (finite_within ps all)

  -- ---- the same of the paper's own configurations
  -- Document 01's set is finite.
  pub algorithm_2 : (starts : List Conf) → SeedsAgree s starts seeds → (ps : List Configuration)
      → ((p : Configuration) → Member (transitions s) seeds p → Memᴰ p ps) → EndsAs s starts
  algorithm_2 starts agree ps all = record {
    round = n;
    few = λ qs holds. omega (arith, few_members, explored_few l qs (inside qs holds));
    equal = λ x y hx hy h.
        let p = member x hx in
        let q = member y hy in
        (partition_round s wf (suc n) x y p.0 q.0 p.2 q.2).1
        (r.stable p.0 q.0 p.1 q.1 ((partition_round s wf n x y p.0 q.0 p.2 q.2).0 h));
    first = λ m k splits-none. r.first m k (λ p q mp mq h.
        let x = member_starred s wf starts seeds agree mp in
        let y = member_starred s wf starts seeds agree mq in
        (partition_round s wf (suc m) x.0 y.0 p q x.2 y.2).0
        (splits-none x.0 y.0 x.1 y.1 ((partition_round s wf m x.0 y.0 p q x.2 y.2).1 h)));
    coincides = λ x y hx hy.
        let p = member x hx in
        let q = member y hy in
        let a = partition_round s wf n x y p.0 q.0 p.2 q.2 in
        let b = stable_bisimilar (transitions s) (lawful s wf) seeds of n r.stable p.0 q.0 p.1 q.1 in
        let c = saturated_agrees s wf x y p.0 q.0 (in_sheet p.0 p.1) (in_sheet q.0 q.1) p.2 q.2 in
        ((λ h. c.1 (b.0 (a.0 h))), (λ h. a.1 (b.1 (c.0 h))));
  }
    where
      l : Limits
      l = limits_of ps

      set : List Configuration
      set = explored s l seeds

      n : ℕ
      n = result_of (rounds s set)

      some : 1 ≤ length set
      some = member_some set (explored_seeds s l seeds first-seed seeded)

      r : ResultRound s seeds n
      r = result_round s wf l seeds of (finite_within ps all) some

      -- the round is below the number of members
      few_members : n < length set
      few_members = (result_is s set wf (explored_closed s l seeds (finite_within ps all)) some).few

      -- a list with what all of IS* reads as has the members
      inside : (qs : List Configuration) → ((x : Conf) → Starred s starts x → Memᴰ (reading_of s x) qs)
          → (p : Configuration) → Memᴰ p set → Memᴰ p qs
      inside qs holds p m =
          let x = member_starred s wf starts seeds agree (explored_member s l seeds p m) in
          subst (λ (q : Configuration). Memᴰ q qs) (sym (reads_one s x.0 p x.2)) (holds x.0 x.1)

      in_sheet : (p : Configuration) → Member (transitions s) seeds p → OfSheet s p
      in_sheet = member_of (transitions s) (lawful s wf) seeds of

      member : (x : Conf) → Starred s starts x → (p : Configuration) × Member (transitions s) seeds p × Reads s x p
      member x h = starred_member s wf starts seeds agree h

  -- IS* is finite: a list has all its configurations. This asks for more: processes that differ in order and 0 only count too.
  pub algorithm_2_finite : (starts : List Conf) → SeedsAgree s starts seeds → (xs : List Conf)
      → ((x : Conf) → Starred s starts x → Memᴰ x xs) → EndsAs s starts
  algorithm_2_finite starts agree xs all =
      algorithm_2 starts agree (map (reading_of s) xs) (finite_members s wf starts seeds agree xs all)
