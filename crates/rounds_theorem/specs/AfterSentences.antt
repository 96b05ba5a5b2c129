-- Document 02, card 13, sentence by sentence: what follows for a caller who has two answers on the same starts, and for one who has the
-- comparing call's report beside an answer. Proved of any calls that keep their promises, each within limits and with slices of its own.
use Rattle.answers.specs.Outcome.{reported}
use Rattle.std.specs.Prelude.{◌≡◌, Bool, true, false, ℕ, ◌≤◌, length}
use Rattle.std.proofs.Math.Path.{refl, subst}
use Rattle.std.proofs.Common.{sym, ap, ◌∙◌, arith}
use mathlib.Core.List.{List, [], ◌∷◌, Memᴰ}
use Rattle.rounds_call.specs.ListPlaces.{get_d_in}
use Rattle.answers.specs.Sheet.{Configuration, Sheet, start}
use Rattle.answers.specs.SheetBytes.{ChoiceIs}
use Rattle.answers.specs.WellFormed.{OfSheet, WellFormed}
use Rattle.answers.specs.SheetRead.{one_sheet}
use Rattle.call_theorem.specs.ReadingLaws.{written_admissible}
use Rattle.answers.specs.Refinement.{Transitions, Member, Round, Bisimilar, seed}
use Rattle.call_theorem.specs.LevelLaws.{bisimulation_level}
use Rattle.call_theorem.specs.StableRounds.{Stable, stable_later, stable_bisimilar}
use Rattle.answers.specs.CallLimits.{Limits, NoGreater, limits, desk_limits}
use Rattle.answers.specs.Classes.{share, class_total}
use Rattle.answers.specs.Report as report
use Rattle.answers.specs.SheetTransitions.{transitions}
use Rattle.answers.specs.Promise.{ResultRound, Faithful, starts_of}
use Rattle.answers.specs.Call.{compare_with, compare, compare_desk}
use Rattle.call_theorem.specs.SheetMoves.{lawful}
use Rattle.call_theorem.specs.Theorem.{both_hold}
use Rattle.call_theorem.specs.FaithfulAlone.{members_one, as_many, finer_places, classes_one}
use Rattle.call_theorem.specs.LimitLaws.{own_limits, desk_no_greater}
use Rattle.answers.specs.ReadBack.{read_back_lem}
use Rattle.answers.specs.declared.Reported.{Reported}
use Rattle.call_theorem.specs.Compared.{Compared}
use Rattle.after_rounds.specs.CallPromise as call
use Rattle.after_rounds.specs.CallPromise.{report_read, CallPromise}
use Rattle.call_theorem.specs.CallPromiseLaws.{call_promise}
use Rattle.call_theorem.specs.ClassTotals.{total_few, total_finer}
use Rattle.after_rounds.specs.AfterRounds as spec
use Rattle.after_rounds.specs.AfterRounds.{AfterRounds, SAME, DIFF, compare_rounds_with, compare_rounds, compare_rounds_desk}
use Rattle.after_rounds.specs.AfterRoundsRead.{verdict_returned, verdict_read, after_read}
use Rattle.after_rounds.specs.AfterRoundsPromise.{NonePart, FaithfulAfter, ReachedPromise, RoundsPromise, Unaltered, report_verdict, BesideReport}
use Rattle.after_rounds.specs.declared.Verdict.{Verdict}
use Rattle.after_rounds.specs.declared.Verdict.TheVariants.{Same, Diff}
use Rattle.after_rounds.specs.declared.Reached.{Reached}
use Rattle.rounds_theorem.specs.ToldLaws.{told_later, apart_told, untold_together, none_part}
use Rattle.rounds_call.specs.ComparedRounds.{ComparedRounds}
use Rattle.rounds_theorem.specs.AfterPromiseLaws.{rounds_promise}

-- the verdict that was returned is that of what is read back
returned_verdict : {l : Limits} {bytes : List ℕ} {left right k : ℕ} {v before w after : List ℕ} {x : Reached}
    → ReachedPromise l bytes left right k v before w after x → {u : spec.Verdict} → (after_read x after).verdict ≡ u → x.verdict ≡ verdict_returned u
returned_verdict m e = ap (λ (y : Reached). y.verdict) m.returned ∙ ap verdict_returned e

-- ---- two answers on the same starts
module _ {l h : Limits} {bytes : List ℕ} {left right k n : ℕ} {v before w after : List ℕ} {x : Reached} {v2 before2 w2 after2 : List ℕ} {y : Reached} where
  -- SAME and DIFF stay as they are after more rounds
  pub unaltered : k ≤ n → RoundsPromise l bytes left right k v before w after (reported x)
      → RoundsPromise h bytes left right n v2 before2 w2 after2 (reported y) → Unaltered x y
  unaltered le a b =
      let o = b.made y refl in
      let f = (a.made x refl).faithful in
      let g = o.faithful in
      let one : f.0 ≡ g.0 = one_sheet bytes f.1.written g.1.written in
      let s : FaithfulAfter g.0 k (start g.0 left) (start g.0 right) (after_read x after) =
      subst (λ (t : Sheet). FaithfulAfter t k (start t left) (start t right) (after_read x after)) one f.2 in
      let later : NonePart g.0 (starts_of g.0 left right) k → NonePart g.0 (starts_of g.0 left right) n =
      λ none p q mp mq u. none p q mp mq (λ t. u (told_later le t)) in
      record {
        same = λ e. let t = s.same.0 (ap verdict_read e) in returned_verdict o (g.2.same.1 (t.0, later t.1));
        diff = λ e. returned_verdict o (g.2.diff.1 (told_later le (s.diff.0 (ap verdict_read e))));
      }

-- ---- a faithful answer and a faithful report on the same starts
module _ (sheet : Sheet) (wf : WellFormed sheet) (p q : Configuration) (op : OfSheet sheet p) (oq : OfSheet sheet q) (k : ℕ) (a : AfterRounds)
    (f : FaithfulAfter sheet k p q a) (r : report.Report) (g : Faithful sheet p q r) where
  abbrev T : Transitions
  T = transitions sheet

  abbrev seeds : List Configuration
  seeds = p ∷ q ∷ []

  in_report : {x : Configuration} → Memᴰ x a.members → Memᴰ x r.members
  in_report {x} m = (g.listed.set.whole x).1 ((f.listed.whole x).0 m)

  in_answer : {x : Configuration} → Memᴰ x r.members → Memᴰ x a.members
  in_answer {x} m = (f.listed.whole x).1 ((g.listed.set.whole x).0 m)

  -- members that share a class of the report share one of the answer
  share_before : (x y : Configuration) → Memᴰ x r.members → Memᴰ y r.members → share r.members r.classes x y ≡ true
      → share a.members a.classes x y ≡ true
  share_before x y mx my h =
      let b : Bisimilar T x y = (g.listed.classes x y mx my).0 h in
      (f.shared x y (in_answer mx) (in_answer my)).1
      (λ t. t.apart (bisimulation_level T (lawful sheet wf) b.relation b.is_bisimulation t.moves x y b.contains))

  -- the members are the same
  pub beside_members : a.members ≡ r.members
  beside_members = members_one f.listed g.listed.set

  -- the final number of classes is at least that after k rounds
  pub beside_least : class_total a.classes ≤ class_total r.classes
  beside_least =
      total_finer r.classes a.classes (as_many g.listed.set f.listed) (finer_places g.listed.set f.listed share_before)

  -- and at most the set's size
  pub beside_most : class_total r.classes ≤ length a.members
  beside_most = omega (arith, total_few r.classes, g.listed.set.classed, ap length beside_members)

  -- from the result's round on
  module _ (n : ℕ) (result : ResultRound sheet seeds n) (le : n ≤ k) where
    stable : Stable T (lawful sheet wf) seeds k
    stable = stable_later T (lawful sheet wf) seeds n k le result.stable

    together_bisimilar : (x y : Configuration) → Member T seeds x → Member T seeds y → Round T k x y → Bisimilar T x y
    together_bisimilar x y mx my h =
        (stable_bisimilar T (lawful sheet wf) seeds (both_hold (OfSheet sheet) op oq) k stable x y mx my).0 h

    -- the classes are the same
    pub beside_classes : a.classes ≡ r.classes
    beside_classes =
        classes_one f.listed g.listed.set
        (λ x y mx my h.
        (g.listed.classes x y (in_report mx) (in_report my)).1
        (together_bisimilar x y ((f.listed.whole x).0 mx) ((f.listed.whole y).0 my) (untold_together sheet wf k x y ((f.shared x y mx my).0 h))))
        share_before

    -- and so is the verdict, SAME
    pub beside_same : r.verdict ≡ report.SAME → a.verdict ≡ SAME
    beside_same e = f.same.1 (g.same.0 e, (none_part sheet wf seeds k).0 stable)

    -- or DIFF
    pub beside_diff : r.verdict ≡ report.DIFF → a.verdict ≡ DIFF
    beside_diff e =
        f.diff.1 (apart_told sheet wf k p q (λ h.
        g.diff.0 e (together_bisimilar p q (seed (Memᴰ.head refl)) (seed (Memᴰ.tail (Memᴰ.head refl))) h)))

-- a report's verdict, from what each of the two verdicts says
as_reported : (b : Bool) {u : Verdict} → (call.verdict_read b ≡ report.SAME → u ≡ Same) → (call.verdict_read b ≡ report.DIFF → u ≡ Diff) → u ≡ report_verdict b
as_reported true same diff = same refl
as_reported false same diff = diff refl

-- ---- both calls on one sheet
module _ {l h : Limits} {bytes : List ℕ} {left right k : ℕ} {v before w after : List ℕ} {x : Reached} {v2 before2 w2 after2 : List ℕ} {y : Reported} where
  -- An answer beside a report on the same starts, where neither call is refused.
  pub beside_report : RoundsPromise l bytes left right k v before w after (reported x) → CallPromise h bytes left right v2 before2 w2 after2 (reported y)
      → (sheet : Sheet) → ChoiceIs bytes left right sheet → BesideReport sheet left right k x after y after2
  unfolding read_back_lem
  beside_report a b sheet c =
      let m = a.made x refl in
      let i = m.faithful in
      let j = (b.made y refl).faithful in
      let p : Configuration = start sheet left in
      let q : Configuration = start sheet right in
      let f : FaithfulAfter sheet k p q (after_read x after) =
      subst (λ (t : Sheet). FaithfulAfter t k (start t left) (start t right) (after_read x after)) (one_sheet bytes i.1.written c.written) i.2 in
      let g : Faithful sheet p q (report_read y after2) =
      subst (λ (t : Sheet). Faithful t (start t left) (start t right) (report_read y after2)) (one_sheet bytes j.1.written c.written) j.2 in
      let fine = written_admissible bytes sheet c.written in
      let wf : WellFormed sheet = fine.well_formed in
      let op : OfSheet sheet p = fine.starts_fit p (get_d_in sheet.starts left (record { store = 0; threads = [] }) c.left_there) in
      let oq : OfSheet sheet q = fine.starts_fit q (get_d_in sheet.starts right (record { store = 0; threads = [] }) c.right_there) in
      let r : report.Report = report_read y after2 in
      record {
        at_least =
            subst (λ (z : Reached). z.classes ≤ class_total r.classes) (sym m.returned) (beside_least sheet wf p q op oq k (after_read x after) f r g);
        at_most =
            subst (λ (z : Reached). class_total r.classes ≤ z.members) (sym m.returned) (beside_most sheet wf p q op oq k (after_read x after) f r g);
        members = beside_members sheet wf p q op oq k (after_read x after) f r g;
        classes = beside_classes sheet wf p q op oq k (after_read x after) f r g;
        verdict = λ n result le.
            as_reported y.same
            (λ e. returned_verdict m (beside_same sheet wf p q op oq k (after_read x after) f r g n result le e))
            (λ e. returned_verdict m (beside_diff sheet wf p q op oq k (after_read x after) f r g n result le e));
      }

-- ---- the calls themselves, from their contracts, within any limits that are not above document 01's
module _ (l h : Limits) (small : NoGreater l limits) (below : NoGreater h limits) (bytes : List ℕ) (left right k : ℕ) {v before w after : List ℕ} {x : Reached}
    {v2 before2 w2 after2 : List ℕ} (a : ComparedRounds (compare_rounds_with l bytes left right k (length v) (length before)) v before w after (reported x)) where
  -- more rounds leave SAME and DIFF as they are
  pub calls_unaltered : {y : Reached} (n : ℕ) → k ≤ n
      → ComparedRounds (compare_rounds_with h bytes left right n (length v2) (length before2)) v2 before2 w2 after2 (reported y) → Unaltered x y
  calls_unaltered {y} n le b =
      unaltered le (rounds_promise l bytes left right k small v before w after (reported x) a)
      (rounds_promise h bytes left right n below v2 before2 w2 after2 (reported y) b)

  -- the answer beside the comparing call's report
  pub calls_beside_report : {y : Reported} → Compared (compare_with h bytes left right (length v2) (length before2)) v2 before2 w2 after2 (reported y)
      → (sheet : Sheet) → ChoiceIs bytes left right sheet → BesideReport sheet left right k x after y after2
  calls_beside_report {y} b =
      beside_report (rounds_promise l bytes left right k small v before w after (reported x) a)
      (call_promise h below bytes left right v2 before2 w2 after2 (reported y) b)

-- ---- within document 01's limits
module _ (bytes : List ℕ) (left right k : ℕ) {v before w after : List ℕ} {x : Reached} {v2 before2 w2 after2 : List ℕ}
    (a : ComparedRounds (compare_rounds bytes left right k (length v) (length before)) v before w after (reported x)) where
  -- more rounds leave SAME and DIFF as they are
  pub document_unaltered : {y : Reached} (n : ℕ) → k ≤ n
      → ComparedRounds (compare_rounds bytes left right n (length v2) (length before2)) v2 before2 w2 after2 (reported y) → Unaltered x y
  document_unaltered = calls_unaltered limits limits (own_limits limits) (own_limits limits) bytes left right k a

  -- the answer beside the comparing call's report
  pub document_beside_report : {y : Reported} → Compared (compare bytes left right (length v2) (length before2)) v2 before2 w2 after2 (reported y)
      → (sheet : Sheet) → ChoiceIs bytes left right sheet → BesideReport sheet left right k x after y after2
  document_beside_report = calls_beside_report limits limits (own_limits limits) (own_limits limits) bytes left right k a

-- ---- within the desk's
module _ (bytes : List ℕ) (left right k : ℕ) {v before w after : List ℕ} {x : Reached} {v2 before2 w2 after2 : List ℕ}
    (a : ComparedRounds (compare_rounds_desk bytes left right k (length v) (length before)) v before w after (reported x)) where
  -- more rounds leave SAME and DIFF as they are
  pub desk_unaltered : {y : Reached} (n : ℕ) → k ≤ n
      → ComparedRounds (compare_rounds_desk bytes left right n (length v2) (length before2)) v2 before2 w2 after2 (reported y) → Unaltered x y
  desk_unaltered = calls_unaltered desk_limits desk_limits desk_no_greater desk_no_greater bytes left right k a

  -- the answer beside the comparing call's report
  pub desk_beside_report : {y : Reported} → Compared (compare_desk bytes left right (length v2) (length before2)) v2 before2 w2 after2 (reported y)
      → (sheet : Sheet) → ChoiceIs bytes left right sheet → BesideReport sheet left right k x after y after2
  desk_beside_report = calls_beside_report desk_limits desk_limits desk_no_greater desk_no_greater bytes left right k a
