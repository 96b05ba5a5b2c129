-- From the rounds to the answer: the round that was reached has the classes of round k, it is the result's exactly where round k equals its
-- successor, and the bytes and numbers are document 02's.
use Rattle.report_bytes.specs.Outcome.{Outcome, refusal, reported}
use Rattle.std.specs.Prelude.{◌≡◌, refl, Bool, true, false, ℕ, suc, ◌≤◌, ◌<◌, length, eqb}
use Rattle.std.proofs.Math.Path.{sym, ap₂}
use Rattle.std.proofs.Common.{ap, ◌∙◌, subst, arith}
use mathlib.Core.List.{List, Memᴰ}
use Rattle.sheet_types.specs.TestLaws.{Tested, tested, passes, fails}
use Rattle.start_classes.specs.Frames.{SameOutside, outside_then}
use Rattle.start_classes.specs.Members.{same_equal, equal_same}
use Rattle.sheet_types.specs.Lists.{same_numbers}
use Rattle.sheet_types.specs.Refusals.{short_answer}
use Rattle.sheet_types.specs.SheetLimits.{max_threads}
use Rattle.sheet_types.specs.Sheet.{Configuration, Sheet}
use Rattle.sheet_types.specs.declared.Configuration as held
use Rattle.sheet_types.specs.HeldSheet.{configuration}
use Rattle.start_classes.specs.WorkLayout.{work_end}
use Rattle.report_bytes.specs.SetLayout.{SetHeld}
use Rattle.start_classes.specs.ClassLayout.{classes_in}
use Rattle.start_classes.specs.Classes.{class_of, share, class_total}
use Rattle.start_classes.specs.Rounds.{classes, rounds, result_of}
use Rattle.report_bytes.specs.ResultLaws.{classes_from, result_is}
use Rattle.class_rounds.specs.RoundLayout.{held_count_lem}
use Rattle.start_classes.specs.FoundMembers.{held_ordered}
use Rattle.class_rounds.specs.RoundsDone.{RoundsHeld, Refined, RoundReached, refined_outside}
use Rattle.separations.specs.ReportClasses.{Renumbered, rounds_total}
use Rattle.report_bytes.specs.AnswerMade.{made_refused, made_given}
use Rattle.report_bytes.specs.ReportLayout.{members_part}
use Rattle.report_bytes.specs.ReportInSlice.{MembersHeld}
use Rattle.report_bytes.specs.ReportInSliceLaws.{members_held, members_agree, held_members}
use Rattle.report_bytes.specs.BytesStored.{stored_front}
use Rattle.start_classes.specs.Slices.{Stored}
use Rattle.start_classes.specs.StartClasses.{class_held, MemberHeld}
use Rattle.verdicts.specs.Verdicts.{verdict_in}
use Rattle.two_starts.specs.TwoStarts.{StartsHeld, starts_ready}
use Rattle.after_rounds.specs.AfterRounds.{Verdict, equals_next, after_on, after_bytes}
use Rattle.after_rounds.specs.AfterRoundsRead.{verdict_returned, afters_returned}
use Rattle.after_rounds.specs.declared.Reached.{Reached}
use Rattle.set_rounds.specs.RoundMade.{RoundMade}

-- ---- w after at most k rounds, x with the classes of the round that was reached
module _ {v : List ℕ} {n m : ℕ} {w : List ℕ} {k r count : ℕ} {last : Bool} (R : Refined v n m w r count) (K : RoundReached v n m k r last)
    {x : List ℕ} (N : Renumbered w n x) where
  -- nothing behind the work places is changed
  pub round_outside : SameOutside 0 work_end v x
  round_outside = outside_then (refined_outside R) N.only 0 work_end (omega arith) (omega arith) (omega arith) (omega arith)

  module _ {sheet : Sheet} {set : List Configuration} {p q : Configuration} (S : StartsHeld sheet set v n m p q) where
    rounds_now : RoundsHeld sheet set w n m r count
    rounds_now = R.rounds_held sheet set (starts_ready S)

    set_now : SetHeld sheet set x n m
    set_now = (N.numbers sheet set m r count rounds_now).0

    size : length set ≡ n
    size = held_count_lem sheet set x n m set_now

    some : 1 ≤ length set
    some = omega (arith, size, (starts_ready S).some)

    -- the round that was reached, where it is the result's, equals all later ones
    result_reached : last ≡ true → (j : ℕ) → r ≤ j → classes sheet set j ≡ classes sheet set r
    result_reached e =
        let is : result_of (rounds sheet set) ≡ r = omega (arith, K.result e sheet set (starts_ready S)) in
        classes_from sheet set r
        (subst (λ (i : ℕ). classes sheet set (suc i) ≡ classes sheet set i) is (result_is sheet set S.wf S.closed some).equal)

    -- it has the classes of round k
    reached_classes : classes sheet set k ≡ classes sheet set r
    reached_classes = go (tested last)
      where
        go : Tested last → classes sheet set k ≡ classes sheet set r
        go (passes e) = result_reached e k K.within
        go (fails e) = ap (classes sheet set) (sym (K.later e).0)

    -- and is the result's exactly where round k equals its successor
    last_is : last ≡ equals_next sheet set k
    last_is = go (tested last)
      where
        next : (b : Bool) → equals_next sheet set k ≡ b → last ≡ false → false ≡ b
        next false f e = refl
        next true f e =
            absurd ((result_is sheet set S.wf S.closed some).first k
            (omega (arith, (K.later e).0, (K.later e).1 sheet set (starts_ready S)))
            (same_equal (classes sheet set (suc k)) (classes sheet set k) f))

        go : Tested last → last ≡ equals_next sheet set k
        go (passes e) =
            let same : classes sheet set (suc k) ≡ classes sheet set k =
            result_reached e (suc k) (omega (arith, K.within)) ∙ sym (result_reached e k K.within) in
            e ∙ sym (subst (λ (c : List ℕ). same_numbers c (classes sheet set k) ≡ true) (sym same) (equal_same (classes sheet set k)))
        go (fails e) = e ∙ next (equals_next sheet set k) refl e

    classes_now : classes_in x n ≡ classes sheet set k
    classes_now = (N.numbers sheet set m r count rounds_now).1 ∙ sym reached_classes

    -- the members can be read from the slice
    pub round_members : MembersHeld x n
    round_members = members_held set_now

    -- and a start found there
    pub round_start : (s : held.Configuration) → s.count ≤ max_threads → Memᴰ (configuration s) set → MemberHeld x n s
    round_start s few i =
        record {
          set = record { long = set_now.long; few = set_now.few.0; ordered = held_ordered set_now S.ascends };
          threads = few;
          there = subst (λ (l : List Configuration). Memᴰ (configuration s) l) (sym set_now.members) i;
        }

    -- the bytes are those of the answer
    round_bytes : members_part x n ≡ after_bytes (after_on sheet set k p q)
    unfolding after_on
    round_bytes = held_members set (classes sheet set k) x n (members_agree set_now S.ascends classes_now)

    -- two classes that were found are one exactly where the starts share a class in round k
    classes_shared : eqb (class_held x n p) (class_held x n q) ≡ share set (classes sheet set k) p q
    classes_shared =
        ap₂ (λ (l : List Configuration) (c : List ℕ). eqb (class_of l c p) (class_of l c q)) set_now.members classes_now

    round_verdict : verdict_in (eqb (class_held x n p) (class_held x n q)) last ≡ (after_on sheet set k p q).verdict
    unfolding after_on
    round_verdict = ap₂ verdict_in classes_shared last_is

    -- there are as many classes as were kept
    round_total : count ≡ class_total (after_on sheet set k p q).classes
    unfolding after_on
    round_total = sym (ap class_total reached_classes ∙ rounds_total rounds_now)

    round_size : n ≡ length (after_on sheet set k p q).members
    unfolding after_on
    round_size = sym size

  -- ---- the answer
  module _ (p q : held.Configuration) (before : List ℕ) (size : ℕ) (es : size ≡ length (members_part x n)) where
    abbrev Held : Sheet → List Configuration → Type 0
    Held sheet set = StartsHeld sheet set v n m (configuration p) (configuration q)

    -- the answer slice is too short
    pub round_refused : length before < size → RoundMade k v before n m p q x before (refusal short_answer size)
    round_refused h =
        subst (λ (z : ℕ). RoundMade k v before n m p q x before (refusal short_answer z)) (sym es)
        (made_refused after_bytes afters_returned (λ sheet set. after_on sheet set k (configuration p) (configuration q)) Held round_outside
        (members_part x n) (λ sheet set S. round_bytes S) before (omega (arith, es)))

    -- the members are written into its front
    pub round_given : size ≤ length before → {after : List ℕ} {end : ℕ} → Stored before 0 (members_part x n) after end
        → {left right : ℕ} → left ≡ class_held x n (configuration p) → right ≡ class_held x n (configuration q)
        → RoundMade k v before n m p q x after
        (reported (record { verdict = verdict_returned (verdict_in (eqb left right) last); classes = count; members = n; length = size }))
    round_given h s el er =
        made_given after_bytes afters_returned (λ sheet set. after_on sheet set k (configuration p) (configuration q)) Held round_outside
        (members_part x n) (λ sheet set S. round_bytes S) before (omega (arith, es)) (stored_front s (omega (arith, es)))
        (λ sheet set S.
        alike (ap₂ (λ (a b : ℕ). verdict_in (eqb a b) last) el er ∙ round_verdict S) (round_total S) (round_size S) (es ∙ ap length (round_bytes S)))
      where
        alike : {a b : Verdict} {c d i j s t : ℕ} → a ≡ b → c ≡ d → i ≡ j → s ≡ t
            → ◌≡◌ {A = Outcome Reached} (reported (record { verdict = verdict_returned a; classes = c; members = i; length = s }))
            (reported (record { verdict = verdict_returned b; classes = d; members = j; length = t }))
        alike {a} {b} {c} {d} {i} {j} {s} {t} e f g h =
            ap₂ (λ (v : Verdict) (x : ℕ). reported (record { verdict = verdict_returned v; classes = x; members = i; length = s })) e f
            ∙ ap₂ (λ (x y : ℕ). reported (record { verdict = verdict_returned b; classes = d; members = x; length = y })) g h
