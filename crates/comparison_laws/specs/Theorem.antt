-- Demand 3, proved about the executable definitions: a report is faithful, for every sheet that is read, every choice of
-- starts and every limits.
use Rattle.std.specs.Prelude.{◌≡◌, refl, ◌↔◌, Bool, true, false, cond, ℕ, suc, ◌≤◌, ◌<◌, length, get_or, eqb}
use Rattle.std.proofs.Common.{sym, subst, ⊎_elim, arith, eqb-true}
use mathlib.Core.List.Memᴰ
use mathlib.Core.List.{List, [], ◌∷◌, Memᴰ}
use Rattle.std.proofs.lemmas.Bool.{eqb-false}
use Rattle.move_laws.specs.Sheet.{Configuration, Sheet}
use Rattle.move_laws.specs.WellFormed.{OfSheet, WellFormed}
use Rattle.comparison.specs.CallLimits.{Limits}
use Rattle.comparison.specs.Set.{over, explored, fits}
use Rattle.comparison.specs.Classes.{share}
use Rattle.comparison.specs.Rounds.{classes, rounds, result_of, apart_in}
use Rattle.comparison.specs.Trail.{trail}
use Rattle.comparison.specs.Report.{Verdict, SAME, DIFF, verdict_of, round_of, report_on}
use Rattle.comparison.specs.Refinement.{Transitions, Member, Round, Level, TellsApart, Bisimilar, FirstApart}
use Rattle.refinement_laws.specs.RoundLevels.{round_level, first_apart, always_together}
use Rattle.refinement_laws.specs.LevelLaws.{bisimulation_level}
use Rattle.refinement_laws.specs.StableRounds.{Stable, stable_always, stable_bisimilar}
use Rattle.comparison.specs.SheetTransitions.{transitions}
use Rattle.comparison_laws.specs.SheetMoves.{lawful}
use Rattle.comparison_laws.specs.ClassLaws.{place_of_lt, place_of_at}
use Rattle.comparison_laws.specs.RoundLaws.{ClosedList, share_round}
use Rattle.comparison_laws.specs.SetLaws.{explored_seeds, explored_member, explored_ascends, explored_closed, explored_complete, fits_not_over}
use Rattle.comparison_laws.specs.ResultLaws.{classes_length, Result, result_is, classes_by_first, stable_classes, rounds_of, rounds_at}
use Rattle.comparison_laws.specs.TrailLaws.{apart_le, trail_none}
use Rattle.comparison_laws.specs.TrailWalk.{together_below, apart_first, trail_walkable}
use Rattle.comparison.specs.Promise.{ResultRound, Walkable, SetListed, Classified, Faithful}

module _ (sheet : Sheet) (wf : WellFormed sheet) (l : Limits) (seeds : List Configuration)
    (of : (x : Configuration) → Memᴰ x seeds → OfSheet sheet x)
    (within : over l (explored sheet l seeds) ≡ false) where
  abbrev T : Transitions
  T = transitions sheet

  abbrev set : List Configuration
  set = explored sheet l seeds

  closed_set : ClosedList sheet set
  closed_set = explored_closed sheet l seeds within

  -- the list is the set
  pub whole : (x : Configuration) → Memᴰ x set ↔ Member T seeds x
  whole x = (explored_member sheet l seeds x, explored_complete sheet l seeds within x)

  -- the set is listed whole with the classes of any round, numbered by first member
  pub round_listed : (n : ℕ) → SetListed sheet seeds set (classes sheet set n)
  round_listed n =
      record {
        ordered = explored_ascends sheet l seeds;
        whole = whole;
        classed = classes_length sheet set n;
        numbering = classes_by_first sheet set n;
      }

  -- equal class numbers of two rounds: the first splits no member
  pub equal_stable : (n : ℕ) → classes sheet set (suc n) ≡ classes sheet set n → Stable T (lawful sheet wf) seeds n
  equal_stable n e x y mx my h =
      (share_round sheet wf set closed_set (suc n) x y ((whole x).1 mx) ((whole y).1 my)).0
      (subst (λ (c : List ℕ). share set c x y ≡ true) (sym e) ((share_round sheet wf set closed_set n x y ((whole x).1 mx) ((whole y).1 my)).1 h))

  -- a round that splits no member has the class numbers of its successor
  pub stable_equal : (n : ℕ) → Stable T (lawful sheet wf) seeds n → classes sheet set (suc n) ≡ classes sheet set n
  stable_equal n st = stable_classes sheet set wf closed_set n (λ x y mx my h. st x y ((whole x).0 mx) ((whole y).0 my) h)

  module _ (some : 1 ≤ length set) where
    abbrev N : ℕ
    N = result_of (rounds sheet set)

    result : Result sheet set wf closed_set N
    result = result_is sheet set wf closed_set some

    rounds_length : suc N ≡ length (rounds sheet set)
    rounds_length = omega (arith, (rounds_of sheet set wf closed_set some).some)

    pub result_stable : Stable T (lawful sheet wf) seeds N
    result_stable = equal_stable N result.equal

    -- two members share a class of the result's round exactly when some bisimulation contains them
    pub result_classes : (x y : Configuration) → Memᴰ x set → Memᴰ y set
        → (share set (get_or (rounds sheet set) N []) x y ≡ true) ↔ Bisimilar T x y
    result_classes x y mx my =
        let at : get_or (rounds sheet set) N [] ≡ classes sheet set N = rounds_at sheet set wf closed_set some N (omega (arith, rounds_length)) in
        let a = share_round sheet wf set closed_set N x y mx my in
        let b = stable_bisimilar T (lawful sheet wf) seeds of N result_stable x y ((whole x).0 mx) ((whole y).0 my) in (
          (λ h. b.0 (a.0 (subst (λ (c : List ℕ). share set c x y ≡ true) at h))),
          (λ h. subst (λ (c : List ℕ). share set c x y ≡ true) (sym at) (a.1 (b.1 h))),
        )

    pub result_round : ResultRound sheet seeds N
    result_round = record {
      stable = result_stable;
      first = λ m k st. result.first m k (stable_equal m st);
    }

    -- and with the classes of bisimilarity
    pub result_classified : Classified sheet seeds set (get_or (rounds sheet set) N [])
    result_classified =
        let at : get_or (rounds sheet set) N [] ≡ classes sheet set N = rounds_at sheet set wf closed_set some N (omega (arith, rounds_length)) in
        record { set = subst (SetListed sheet seeds set) (sym at) (round_listed N); classes = result_classes }

    module _ (p q : Configuration) (mp : Memᴰ p set) (mq : Memᴰ q set) where
      abbrev apart : ℕ
      apart = apart_in set (rounds sheet set) p q

      -- where no round separates them, they are together in every round
      together_always : apart ≡ length (rounds sheet set) → (n : ℕ) → Round T n p q
      together_always e =
          stable_always T (lawful sheet wf) seeds N result_stable p q ((whole p).0 mp) ((whole q).0 mq)
          (together_below sheet wf set closed_set some p q mp mq N (omega (arith, rounds_length)))

      -- the two sides of a verdict
      pub data Told : Verdict → ℕ → Type 0 where
        told_same : apart ≡ length (rounds sheet set) → ((n : ℕ) → Round T n p q) → Told SAME N
        told_diff : apart < length (rounds sheet set) → FirstApart T (Round T) apart p q → Told DIFF apart

      pub told : Told (verdict_of (rounds sheet set) apart) (round_of (rounds sheet set) apart)
      told = go (eqb apart (length (rounds sheet set))) refl
        where
          go : (b : Bool) → eqb apart (length (rounds sheet set)) ≡ b → Told (cond b SAME DIFF) (cond b N apart)
          go true e = let s : apart ≡ length (rounds sheet set) = eqb-true apart (length (rounds sheet set)) e in told_same s (together_always s)
          go false e =
              let h : apart < length (rounds sheet set) =
              omega (arith, apart_le set (rounds sheet set) p q, eqb-false apart (length (rounds sheet set)) e) in
              told_diff h (apart_first sheet wf set closed_set some p q mp mq h)

-- ---- a report that is not refused is faithful
pub member_some : (xs : List Configuration) {p : Configuration} → Memᴰ p xs → 1 ≤ length xs
member_some [] m = absurd (Memᴰ.not-nil m)
member_some (x ∷ xs) m = omega arith

-- what holds of both of two holds of all of them
pub both_hold : (P : Configuration → Type 0) {p q : Configuration} → P p → P q → (x : Configuration) → Memᴰ x (p ∷ q ∷ []) → P x
both_hold P {p} {q} hp hq x m =
    ⊎_elim (λ (e : x ≡ p). subst P (sym e) hp) (λ (k : Memᴰ x (q ∷ [])). subst P (sym (Memᴰ.eq_of_singleton k)) hq) (Memᴰ.cases_cons m)

-- SAME is not DIFF
pub same_not_diff : SAME ≡ DIFF → ⊥
same_not_diff e = let z : ◌≡◌ {A = ℕ} 0 1 = cc in omega arith

module _ (sheet : Sheet) (wf : WellFormed sheet) (l : Limits) (p q : Configuration) (op : OfSheet sheet p) (oq : OfSheet sheet q)
    (fit : fits sheet l (explored sheet l (p ∷ q ∷ [])) ≡ true) where
  abbrev seeds : List Configuration
  seeds = p ∷ q ∷ []

  abbrev members : List Configuration
  members = explored sheet l seeds

  of_seeds : (x : Configuration) → Memᴰ x seeds → OfSheet sheet x
  of_seeds = both_hold (OfSheet sheet) op oq

  within_limits : over l members ≡ false
  within_limits = fits_not_over sheet l seeds fit

  left_in : Memᴰ p members
  left_in = explored_seeds sheet l seeds p (Memᴰ.head refl)

  right_in : Memᴰ q members
  right_in = explored_seeds sheet l seeds q (Memᴰ.tail (Memᴰ.head refl))

  some_member : 1 ≤ length members
  some_member = member_some members left_in

  abbrev Tells : Verdict → ℕ → Type 0
  Tells = Told sheet wf l seeds of_seeds within_limits some_member p q left_in right_in

  in_set : (x : Configuration) → Memᴰ x members ↔ Member (transitions sheet) seeds x
  in_set = whole sheet wf l seeds of_seeds within_limits

  result_of_lem : ResultRound sheet seeds (result_of (rounds sheet members))
  result_of_lem = result_round sheet wf l seeds of_seeds within_limits some_member

  together_bisimilar : ((n : ℕ) → Round (transitions sheet) n p q) → Bisimilar (transitions sheet) p q
  together_bisimilar f =
      (stable_bisimilar (transitions sheet) (lawful sheet wf) seeds of_seeds (result_of (rounds sheet members)) result_of_lem.stable p q ((in_set p).0 left_in) ((in_set q).0 right_in)).0
      (f (result_of (rounds sheet members)))

  bisimilar_together : Bisimilar (transitions sheet) p q → (n : ℕ) → Round (transitions sheet) n p q
  bisimilar_together b n =
      (round_level (transitions sheet) (lawful sheet wf) n p q).1
      (bisimulation_level (transitions sheet) (lawful sheet wf) b.relation b.is_bisimulation n p q b.contains)

  diff_of : {v : Verdict} {n : ℕ} → Tells v n → (v ≡ DIFF) ↔ (Bisimilar (transitions sheet) p q → ⊥)
  diff_of (told_same s f) = ((λ e. absurd (same_not_diff e)), (λ g. absurd (g (together_bisimilar f))))
  diff_of (told_diff h f) = ((λ e b. f.apart (bisimilar_together b (apart_in members (rounds sheet members) p q))), (λ g. refl))

  same_of : {v : Verdict} {n : ℕ} → Tells v n → (v ≡ SAME) ↔ ((k : ℕ) → TellsApart (transitions sheet) k p q → ⊥)
  same_of (told_same s f) = ((λ e. (always_together (transitions sheet) (lawful sheet wf) p q).0 f), (λ g. refl))
  same_of (told_diff h f) = (
    (λ e. absurd (same_not_diff (sym e))),
    (λ g. absurd (f.apart ((always_together (transitions sheet) (lawful sheet wf) p q).1 g (apart_in members (rounds sheet members) p q)))),
  )

  diff_round_of : {v : Verdict} {n : ℕ} → Tells v n → v ≡ DIFF → FirstApart (transitions sheet) (Level (transitions sheet)) n p q
  diff_round_of (told_same s f) e = absurd (same_not_diff e)
  diff_round_of (told_diff h f) e = (first_apart (transitions sheet) (lawful sheet wf) (apart_in members (rounds sheet members) p q) p q).0 f

  same_round_of : {v : Verdict} {n : ℕ} → Tells v n → v ≡ SAME → ResultRound sheet seeds n
  same_round_of (told_same s f) e = result_of_lem
  same_round_of (told_diff h f) e = absurd (same_not_diff (sym e))

  closed_members : ClosedList sheet members
  closed_members = explored_closed sheet l seeds within_limits

  walks_of : {v : Verdict} {n : ℕ} → Tells v n → v ≡ DIFF → Walkable sheet n p q (trail sheet members (rounds sheet members) p q)
  walks_of (told_same s f) e = absurd (same_not_diff e)
  walks_of (told_diff h f) e =
      trail_walkable sheet wf members closed_members some_member (length (rounds sheet members)) p q left_in right_in h (omega (arith, h))

  no_steps_of : {v : Verdict} {n : ℕ} → Tells v n → v ≡ SAME → trail sheet members (rounds sheet members) p q ≡ []
  no_steps_of (told_same s f) e = trail_none sheet members (rounds sheet members) (length (rounds sheet members)) p q s
  no_steps_of (told_diff h f) e = absurd (same_not_diff (sym e))

  pub report_faithful : Faithful sheet p q (report_on sheet members p q)
  unfolding report_on
  report_faithful =
      let t : Tells (verdict_of (rounds sheet members) (apart_in members (rounds sheet members) p q)) (round_of (rounds sheet members) (apart_in members (rounds sheet members) p q)) =
      told sheet wf l seeds of_seeds within_limits some_member p q left_in right_in in
      record {
        listed = result_classified sheet wf l seeds of_seeds within_limits some_member;
        diff = diff_of t;
        diff_round = diff_round_of t;
        same = same_of t;
        same_round = same_round_of t;
        trail_walks = walks_of t;
        trail_none = no_steps_of t;
        left_place_lem = (place_of_lt members p left_in, place_of_at members p left_in);
        right_place_lem = (place_of_lt members q right_in, place_of_at members q right_in);
      }
