-- The kept dominating move. For each move, the place of the first move of its member that makes it redundant in the present
-- round: every earlier one failed in some round before, and so fails in every later one.
use Rattle.std.specs.Prelude.{◌≡◌, refl, Bool, true, false, cond, ◌&&◌, ℕ, ◌+◌, ◌≤◌, ◌<◌, length, get_or, eqb, ltb}
use Rattle.std.proofs.Common.{sym, ap, ◌∙◌, subst, arith, eqb-true, ltb-true, ltb-false}
use mathlib.Core.List.{List, Memᴰ}
use Rattle.std.proofs.lemmas.Bool.{eqb-false}
use Rattle.work_layout.specs.TestLaws.{true_false, and_left, and_right, and_intro, Tested, tested, passes, fails}
use Rattle.work_layout.specs.PlacesPassed.{holds_next}
use Rattle.comparison_laws.specs.Members.{any_mem}
use Rattle.comparison_laws.specs.ListPlaces.{get_d_in, any_nowhere, ascends_places}
use Rattle.comparison_laws.specs.FactSetLaws.{within_le}
use Rattle.work_layout.specs.Stores.{strictly_below}
use Rattle.comparison_laws.specs.StoreLaws.{below_within}
use Rattle.comparison_laws.specs.Sheet.{Configuration, Sheet}
use Rattle.comparison_laws.specs.WellFormed.{WellFormed}
use Rattle.comparison_laws.specs.Orders.{Move, configuration_before, move_before}
use Rattle.comparison_laws.specs.OrderLaws.{move_order}
use Rattle.comparison_laws.specs.Moves.{moves, add}
use Rattle.comparison_laws.specs.Classes.{share}
use Rattle.comparison_laws.specs.Rounds.{redundant}
use Rattle.comparison_laws.specs.SheetTransitions.{transitions}
use Rattle.comparison_laws.specs.SetLaws.{moves_ascend}
use Rattle.comparison_laws.specs.RoundLaws.{ClosedList, Sharing}
use Rattle.comparison_laws.specs.EarlierRounds.{round_earlier}

module _ (sheet : Sheet) (set : List Configuration) where
  -- k makes m redundant in these classes
  abbrev pub dominates : List ℕ → Move → Move → Bool
  dominates numbers m k = strictly_below k.label m.label && share set numbers m.target (add sheet m.label k.target)

  -- no move before place i makes m redundant
  pub record Passed (numbers : List ℕ) (ms : List Move) (m : Move) (i : ℕ) : Type 0 where
    pub fail : (j : ℕ) → j < i → j < length ms → dominates numbers m (get_or ms j m) ≡ false

  pub passed_none : (numbers : List ℕ) (ms : List Move) (m : Move) → Passed numbers ms m 0
  passed_none numbers ms m = record { fail = λ j l k. absurd (omega arith) }

  pub passed_one : (numbers : List ℕ) (ms : List Move) (m : Move) (i : ℕ) → Passed numbers ms m i
      → dominates numbers m (get_or ms i m) ≡ false → Passed numbers ms m (i + 1)
  passed_one numbers ms m i P f = record {
    fail = λ j l.
        holds_next (λ i. i < length ms → dominates numbers m (get_or ms i m) ≡ false) 0 i (λ i _ k. P.fail i k) (λ _. f) j (omega arith) l;
  }

  -- none is left: the move is irredundant
  pub passed_all : (numbers : List ℕ) (p : Configuration) (m : Move) (i : ℕ) → Passed numbers (moves sheet p) m i
      → length (moves sheet p) ≤ i
      → redundant sheet set numbers p m ≡ false
  passed_all numbers p m i P l = any_nowhere (dominates numbers m) (moves sheet p) m (λ j k. P.fail j (omega arith) k)

  -- no move from its own place on makes it redundant: labels do not fall
  own_place : (numbers : List ℕ) (p : Configuration) (m : Move) (i j : ℕ) → j < length (moves sheet p) → i ≤ j → get_or (moves sheet p) i m ≡ m
      → dominates numbers m (get_or (moves sheet p) j m) ≡ false
  own_place numbers p m i j l h e = go (tested (dominates numbers m (get_or (moves sheet p) j m))) (tested (eqb i j))
    where
      labels_rise : (a b : Move) → move_before a b ≡ true → a.label ≤ b.label
      labels_rise a b t = ways (eqb a.label b.label) refl t
        where
          ways : (s : Bool) → eqb a.label b.label ≡ s
              → cond s (configuration_before a.target b.target) (ltb a.label b.label) ≡ true → a.label ≤ b.label
          ways true s t = omega (arith, eqb-true a.label b.label s)
          ways false s t = omega (arith, ltb-true a.label b.label t)

      go : Tested (dominates numbers m (get_or (moves sheet p) j m)) → Tested (eqb i j) → dominates numbers m (get_or (moves sheet p) j m) ≡ false
      go (fails y) t = y
      go (passes y) (passes z) =
          let b = below_within (get_or (moves sheet p) j m).label m.label
          (and_left (strictly_below (get_or (moves sheet p) j m).label m.label)
          (share set numbers m.target (add sheet m.label (get_or (moves sheet p) j m).target)) y) in
          let q : get_or (moves sheet p) j m ≡ m = ap (λ (v : ℕ). get_or (moves sheet p) v m) (sym (eqb-true i j z)) ∙ e in
          absurd (b.1 (ap (λ (x : Move). x.label) q))
      go (passes y) (fails z) =
          let b = below_within (get_or (moves sheet p) j m).label m.label
          (and_left (strictly_below (get_or (moves sheet p) j m).label m.label)
          (share set numbers m.target (add sheet m.label (get_or (moves sheet p) j m).target)) y) in
          let r : m.label ≤ (get_or (moves sheet p) j m).label =
          labels_rise m (get_or (moves sheet p) j m)
          (subst (λ (x : Move). move_before x (get_or (moves sheet p) j m) ≡ true) e
          (ascends_places move_order (moves sheet p) (moves_ascend sheet p) i j m (omega (arith, eqb-false i j z)) l)) in
          absurd (b.1 (omega (arith, within_le b.0)))

  -- so the moves before its own place are all that need be passed
  pub passed_own : (numbers : List ℕ) (p : Configuration) (m : Move) (i : ℕ) → get_or (moves sheet p) i m ≡ m
      → Passed numbers (moves sheet p) m i → redundant sheet set numbers p m ≡ false
  passed_own numbers p m i e P =
      any_nowhere (dominates numbers m) (moves sheet p) m (λ j l. go j l (tested (ltb j i)))
    where
      go : (j : ℕ) → j < length (moves sheet p) → Tested (ltb j i) → dominates numbers m (get_or (moves sheet p) j m) ≡ false
      go j l (passes y) = P.fail j (ltb-true j i y) l
      go j l (fails y) = own_place numbers p m i j l (ltb-false j i y) e

  -- the one at hand makes it redundant
  pub kept_redundant : (numbers : List ℕ) (p : Configuration) (m : Move) (i : ℕ) → i < length (moves sheet p)
      → dominates numbers m (get_or (moves sheet p) i m) ≡ true → redundant sheet set numbers p m ≡ true
  kept_redundant numbers p m i l h = any_mem (dominates numbers m) (moves sheet p) (get_d_in (moves sheet p) i m l) h

  -- what was passed in round n is passed in every later one
  pub passed_later : (wf : WellFormed sheet) (closed : ClosedList sheet set) (n r : ℕ) → n ≤ r → (numbers later : List ℕ)
      → Sharing sheet wf set closed numbers n → Sharing sheet wf set closed later r
      → (p : Configuration) (m : Move) (i : ℕ) → Memᴰ p set → Memᴰ m (moves sheet p)
      → Passed numbers (moves sheet p) m i → Passed later (moves sheet p) m i
  passed_later wf closed n r nr numbers later sh sl p m i mp mm P =
      record { fail = λ j l k. go j k (P.fail j l k) (tested (dominates later m (get_or (moves sheet p) j m))) }
    where
      go : (j : ℕ) → j < length (moves sheet p) → dominates numbers m (get_or (moves sheet p) j m) ≡ false
          → Tested (dominates later m (get_or (moves sheet p) j m)) → dominates later m (get_or (moves sheet p) j m) ≡ false
      go j l f (fails y) = y
      go j l f (passes y) =
          let k : Move = get_or (moves sheet p) j m in
          let u : Configuration = add sheet m.label k.target in
          let b : strictly_below k.label m.label ≡ true = and_left (strictly_below k.label m.label) (share set later
          m.target u) y in
          let mk : Memᴰ k (moves sheet p) = get_d_in (moves sheet p) j m l in
          let it : Memᴰ m.target set = closed.targets p m mp mm in
          let iu : Memᴰ u set = closed.addeds p k m mp mk mm b in
          true_false (dominates numbers m k)
          (and_intro b (sh.from_round m.target u it iu
          (round_earlier (transitions sheet) r n m.target u nr
          (sl.to_round m.target u it iu (and_right (strictly_below k.label m.label) (share set later m.target u) y))))) f
