-- The call for so many rounds, about its definition: each refusal is given under its condition and no other, an answer is faithful to the
-- sheet, the room that the limits name suffices, and what is read back from an answer's bytes is the answer.
use Rattle.std.proofs.Math.Path.{◌≡◌}
use Rattle.std.specs.Prelude.{refl, ◌↔◌, Bool, true, false, cond, ℕ, suc, ◌≤◌, ◌<◌, length}
use Rattle.std.proofs.Common.{sym, subst, arith}
use mathlib.Core.List.{List, [], ◌∷◌, ◌++◌, Memᴰ}
use Rattle.answers.specs.Lists.{same_numbers}
use Rattle.rounds_call.specs.TestLaws.{true_false}
use Rattle.rounds_call.specs.Members.{same_equal, equal_same}
use Rattle.rounds_call.specs.ListPlaces.{get_d_in}
use Rattle.answers.specs.Sheet.{Configuration, Sheet, start}
use Rattle.answers.specs.SheetBytes.{ChoiceIs, ChoiceRefused}
use Rattle.answers.specs.WellFormed.{OfSheet, WellFormed, Admissible}
use Rattle.answers.specs.Reading.{read_choice}
use Rattle.answers.specs.SheetRead.{choice_reads}
use Rattle.answers.specs.Refinement.{Member, Round}
use Rattle.answers.specs.CallLimits.{Limits, NoGreater, limits}
use Rattle.answers.specs.Set.{over, explored, fits}
use Rattle.answers.specs.Classes.{share}
use Rattle.answers.specs.Rounds.{classes}
use Rattle.answers.specs.Outcome.{reported, refusal}
use Rattle.answers.specs.SheetTransitions.{transitions}
use Rattle.answers.specs.Promise.{PassesLimit, starts_of}
use Rattle.call_theorem.specs.SetLaws.{fits_unpassed, fits_not_over, explored_seeds, explored_closed}
use Rattle.call_theorem.specs.RoundLaws.{share_round}
use Rattle.call_theorem.specs.ReportLaws.{members_room}
use Rattle.call_theorem.specs.Theorem.{whole, round_listed, equal_stable, stable_equal, both_hold}
use Rattle.call_theorem.specs.FrameTheorem.{Decides, frame_decides, frame_refuses, frame_gives}
use Rattle.call_theorem.specs.FittingLaws.{round_fit}
use Rattle.call_theorem.specs.ReadBackLaws.{listed_back}
use Rattle.after_rounds.specs.AfterRounds.{Verdict, SAME, DIFF, OPEN, AfterRounds, equals_next, verdict_after, after_on, after_bytes, after_length, after_room, compare_rounds_with}
use Rattle.after_rounds.specs.AfterRoundsRead.{verdict_returned, reached_of, verdict_read, after_read}
use Rattle.after_rounds.specs.AfterRoundsPromise.{ToldBy, NeverTold, NonePart, FaithfulAfter, after_for, RefusesAfter, GivesAfter}
use Rattle.rounds_theorem.specs.ToldLaws.{told_apart, apart_told, untold_together, stable_never, none_part}

-- ---- when it refuses, and when it does not
-- what the call makes of a sheet and its set
abbrev after_made : ℕ → ℕ → ℕ → Sheet → List Configuration → AfterRounds
after_made left right k sheet set = after_on sheet set k (start sheet left) (start sheet right)

module _ (l : Limits) (bytes : List ℕ) (left right k work answer : ℕ) where
  -- every call gives an answer, or a refusal under its condition
  pub after_decides : Decides (RefusesAfter l bytes left right k work answer) (GivesAfter l bytes left right k work answer) (compare_rounds_with l bytes left right k work answer)
  unfolding compare_rounds_with
  after_decides =
      frame_decides (ChoiceIs bytes left right) (ChoiceRefused bytes left right) (length bytes) (read_choice bytes left right) (choice_reads bytes left right)
      l (λ sheet. starts_of sheet left right) (after_made left right k) after_bytes work answer

  -- each refusal occurs under its condition and under no other
  pub after_refuses : (number place : ℕ) → (compare_rounds_with l bytes left right k work answer ≡ refusal number place) ↔ RefusesAfter l bytes left right k work answer number place
  unfolding compare_rounds_with
  after_refuses =
      frame_refuses (ChoiceIs bytes left right) (ChoiceRefused bytes left right) (length bytes) (read_choice bytes left right) (choice_reads bytes left right)
      l (λ sheet. starts_of sheet left right) (after_made left right k) after_bytes work answer

  -- and an answer under its own
  pub after_gives : (a : AfterRounds) → (compare_rounds_with l bytes left right k work answer ≡ reported a) ↔ GivesAfter l bytes left right k work answer a
  unfolding compare_rounds_with
  after_gives =
      frame_gives (ChoiceIs bytes left right) (ChoiceRefused bytes left right) (length bytes) (read_choice bytes left right) (choice_reads bytes left right)
      l (λ sheet. starts_of sheet left right) (after_made left right k) after_bytes work answer

-- ---- the three verdicts
same_not_diff : SAME ≡ DIFF → ⊥
same_not_diff e = let z : ◌≡◌ {A = ℕ} 0 1 = cc in omega arith

open_not_diff : OPEN ≡ DIFF → ⊥
open_not_diff e = let z : ◌≡◌ {A = ℕ} 0 1 = cc in omega arith

open_not_same : OPEN ≡ SAME → ⊥
open_not_same e = let z : ◌≡◌ {A = ℕ} 0 1 = cc in omega arith

-- by the tests whether the starts are together in the round, and whether it equals its successor
diff_by : (b c : Bool) → (cond b (cond c SAME OPEN) DIFF ≡ DIFF) ↔ (b ≡ false)
diff_by true true = ((λ e. absurd (same_not_diff e)), (λ e. true_false true refl e))
diff_by true false = ((λ e. absurd (open_not_diff e)), (λ e. true_false true refl e))
diff_by false c = ((λ e. refl), (λ e. refl))

same_by : (b c : Bool) → (cond b (cond c SAME OPEN) DIFF ≡ SAME) ↔ ((b ≡ true) × (c ≡ true))
same_by true true = ((λ e. (refl, refl)), (λ e. refl))
same_by true false = ((λ e. absurd (open_not_same e)), (λ e. true_false false e.1 refl))
same_by false c = ((λ e. absurd (same_not_diff (sym e))), (λ e. true_false false e.0 refl))

verdict_back : (v : Verdict) → verdict_read (verdict_returned v) ≡ v
verdict_back SAME = refl
verdict_back DIFF = refl
verdict_back OPEN = refl

-- ---- a sheet that was read, two of its starts, and a set that passes no limit
module _ (l : Limits) (sheet : Sheet) (fine : Admissible sheet) (left right : ℕ) (left_there : left < length sheet.starts)
    (right_there : right < length sheet.starts) (none : PassesLimit sheet l (starts_of sheet left right) → ⊥) (k : ℕ) where
  abbrev p : Configuration
  p = start sheet left

  abbrev q : Configuration
  q = start sheet right

  abbrev set : List Configuration
  set = explored sheet l (starts_of sheet left right)

  wf : WellFormed sheet
  wf = fine.well_formed

  fit : fits sheet l set ≡ true
  fit = fits_unpassed sheet l (starts_of sheet left right) none

  within : over l set ≡ false
  within = fits_not_over sheet l (starts_of sheet left right) fit

  of : (x : Configuration) → Memᴰ x (starts_of sheet left right) → OfSheet sheet x
  of =
      both_hold (OfSheet sheet) (fine.starts_fit p (get_d_in sheet.starts left (record { store = 0; threads = [] }) left_there))
      (fine.starts_fit q (get_d_in sheet.starts right (record { store = 0; threads = [] }) right_there))

  left_in : Memᴰ p set
  left_in = explored_seeds sheet l (starts_of sheet left right) p (Memᴰ.head refl)

  right_in : Memᴰ q set
  right_in = explored_seeds sheet l (starts_of sheet left right) q (Memᴰ.tail (Memᴰ.head refl))

  member : {x : Configuration} → Memᴰ x set → Member (transitions sheet) (starts_of sheet left right) x
  member {x} m = (whole sheet wf l (starts_of sheet left right) of within x).0 m

  -- two members share a class exactly when round k has them together
  shared_round : (x y : Configuration) → Memᴰ x set → Memᴰ y set
      → (share set (classes sheet set k) x y ≡ true) ↔ Round (transitions sheet) k x y
  shared_round = share_round sheet wf set (explored_closed sheet l (starts_of sheet left right) within) k

  diff_told : (verdict_after sheet set k p q ≡ DIFF) ↔ ToldBy sheet k p q
  diff_told =
      let b : Bool = share set (classes sheet set k) p q in
      let d = diff_by b (equals_next sheet set k) in
      let s = shared_round p q left_in right_in in (
        (λ e. apart_told sheet wf k p q (λ h. true_false b (s.1 h) (d.0 e))),
        (λ t. d.1 (untrue b (λ h. told_apart sheet wf k p q t (s.0 h)))),
      )
    where
      untrue : (b : Bool) → (b ≡ true → ⊥) → b ≡ false
      untrue true n = absurd (n refl)
      untrue false n = refl

  same_never : (verdict_after sheet set k p q ≡ SAME) ↔ (NeverTold sheet p q × NonePart sheet (p ∷ q ∷ []) k)
  same_never =
      let v = same_by (share set (classes sheet set k) p q) (equals_next sheet set k) in
      let s = shared_round p q left_in right_in in
      let n = none_part sheet wf (starts_of sheet left right) k in (
        (λ e.
            let t = v.0 e in
            let st = equal_stable sheet wf l (starts_of sheet left right) of within k
            (same_equal (classes sheet set (suc k)) (classes sheet set k) t.1) in
            (stable_never sheet wf (starts_of sheet left right) k st p q (member left_in) (member right_in) (s.0 t.0), n.0 st)),
        (λ x.
            let st = n.1 x.1 in
            let e : classes sheet set (suc k) ≡ classes sheet set k = stable_equal sheet wf l (starts_of sheet left right) of within k st in
            v.1 (
              s.1 (untold_together sheet wf k p q (λ t. x.0 t.moves t.apart)),
              subst (λ (c : List ℕ). same_numbers (classes sheet set (suc k)) c ≡ true) e (equal_same (classes sheet set (suc k))),
            )),
      )

  -- what it says is so
  pub after_faithful : FaithfulAfter sheet k (start sheet left) (start sheet right) (after_for l sheet left right k)
  unfolding after_on
  after_faithful =
      record {
        listed = round_listed sheet wf l (starts_of sheet left right) of within k;
        shared = λ x y mx my.
            let s = shared_round x y mx my in
            ((λ h t. told_apart sheet wf k x y t (s.0 h)), (λ n. s.1 (untold_together sheet wf k x y n)));
        diff = diff_told;
        same = same_never;
      }

  -- the room that the limits name suffices
  pub after_room_lem : after_length (after_for l sheet left right k) ≤ after_room l
  unfolding after_on
  after_room_lem = omega (arith, members_room l set (classes sheet set k) within)

  -- it is read back from what is returned of it and from its bytes, whatever stands behind them
  pub after_back : NoGreater l limits → (more : List ℕ)
      → after_read (reached_of (after_for l sheet left right k)) (after_bytes (after_for l sheet left right k) ++ more) ≡ after_for l sheet left right k
  unfolding after_on
  after_back small more =
      let back = listed_back set (classes sheet set k) more (round_fit sheet fine l small (starts_of sheet left right) of fit k) in
      alike (verdict_back (verdict_after sheet set k p q)) back.members back.classes
    where
      alike : {v u : Verdict} {ms ns : List Configuration} {cs ds : List ℕ} → v ≡ u → ms ≡ ns → cs ≡ ds
          → ◌≡◌ {A = AfterRounds} (record { verdict = v; members = ms; classes = cs }) (record { verdict = u; members = ns; classes = ds })
      alike e f h = cc
