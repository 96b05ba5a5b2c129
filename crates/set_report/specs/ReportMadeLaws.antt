-- From the rounds to the report: what stands in the work slice after each step, and that in the end it agrees with document 01's
-- report on the set.
use Rattle.answers.specs.Outcome.{refusal, reported}
use Rattle.std.specs.Prelude.{◌≡◌, refl, Bool, true, false, cond, ℕ, suc, ◌+◌, ◌*◌, ◌-◌, ◌/◌, ◌%◌, ◌≤◌, ◌<◌, length, get_or, drop, eqb}
use Rattle.std.proofs.Common.{sym, ap, ◌∙◌, subst, inl, inr, arith, add-one}
use Rattle.std.proofs.Math.Path.{ap₂}
use mathlib.Core.List.{List, ◌++◌, map, Memᴰ}
use Rattle.std.proofs.lemmas.List.{length-map}
use Rattle.packing.specs.Frames.{SameOutside, outside_then}
use Rattle.packing.specs.ListPlaces.{get_d_image}
use Rattle.packing.specs.Tabulate.{tabulate, tabulate_same, tabulate_at, tabulate_length}
use Rattle.sheet_types.specs.Refusals.{short_answer}
use Rattle.sheet_types.specs.Sheet.{Configuration, Sheet}
use Rattle.packing.specs.declared.Numbers.{Numbers}
use Rattle.packing.specs.Packing.{stands_for, PackedIn}
use Rattle.sheet_types.specs.declared.Configuration as struct
use Rattle.sheet_types.specs.HeldSheet.{configuration}
use Rattle.report_bytes.specs.SetLayout.{member_at, SetHeld}
use Rattle.answers.specs.Classes.{place_of}
use Rattle.answers.specs.Rounds.{classes, rounds, apart_in}
use Rattle.answers.specs.Trail.{Side, left, right, none, TrailStep, trail}
use Rattle.answers.specs.Report as spec
use Rattle.answers.specs.Report.{SAME, DIFF, side_byte, report_on, report_bytes, report_length}
use Rattle.dominators.specs.RoundLayout.{same_set_low, held_place}
use Rattle.dominators.specs.FoundMembers.{FoundAt, found_there, held_ordered}
use Rattle.class_rounds.specs.ClassedPlaces.{classed_count, classed_same}
use Rattle.class_rounds.specs.RoundAtHand.{nobody}
use Rattle.class_rounds.specs.RoundsDone.{RoundsHeld, Refined, LastRound, refined_outside, rounds_held_same}
use Rattle.separations.specs.ApartClasses.{rounds_apart}
use Rattle.separations.specs.ReportClasses.{NumberReady, Renumbered, rounds_number_ready, result_numbers}
use Rattle.report_bytes.specs.RecordLayout.{side_in}
use Rattle.report_bytes.specs.ReportLayout.{held_bytes}
use Rattle.report_bytes.specs.ReportInSlice.{StepNumbers, step_in, step_numbers, ReportHeld, Agrees}
use Rattle.report_bytes.specs.AnswerMade.{made_refused, made_given}
use Rattle.report_bytes.specs.ReportInSliceLaws.{members_held, members_agree, held_report}
use Rattle.trail_search.specs.TrailLayout.{apart_at, TrailHeld, BirthsHeld, Followable}
use Rattle.trail_search.specs.FollowedTrail.{Trailed}
use Rattle.answers.specs.Returned.{is_same, returned_of, returned}
use Rattle.verdicts.specs.Verdicts.{verdict_on}
use Rattle.two_starts.specs.TwoStarts.{StartsHeld, starts_ready}
use Rattle.set_report.specs.ReportMade.{ReportMade}
use Rattle.trail_search.specs.WorkLayout.{work_end, member_room, steps_at, steps_end}
use Rattle.trail_search.specs.ClassLayout.{classes_in}

-- the side of a step is a byte
side_small : (s : Side) → side_byte s < 256
side_small left = omega arith
side_small right = omega arith

-- ---- after the rounds
module _ {sheet : Sheet} {set : List Configuration} {w : List ℕ} {n m r count : ℕ} (H : RoundsHeld sheet set w n m r count)
    (last : length (rounds sheet set) ≡ suc r) where
  trail_held : TrailHeld sheet set w n m (r + 1)
  trail_held = record {
    held = H.ready.held;
    wf = H.ready.wf;
    closed = H.ready.closed;
    ascends = H.ready.ascends;
    rounds_are = omega (arith, last);
    first_apart = λ i j li lj. rw (add-one r) (rounds_apart H last i j li lj);
  }

  births_held : BirthsHeld w n
  births_held = record {
    count = count;
    few = omega (arith, classed_count H.classed, H.ready.held.few.0);
    classes = H.classed.known;
    births = H.present.births;
  }

  -- the trail can be followed
  pub rounds_follow : Followable w n (r + 1)
  rounds_follow = record { sheet = sheet; set = set; m = m; held = trail_held; births = births_held }

module _ {sheet : Sheet} {set : List Configuration} {w : List ℕ} {n m r count : ℕ} (H : RoundsHeld sheet set w n m r count) where
  -- a member that is looked for by its numbers stands at the place found, which is its place in the set
  pub member_found : (y : Configuration) → Memᴰ y set → (x : Numbers) (i : ℕ) → PackedIn x × (stands_for x ≡ y) → FoundAt w n x i
      → (i < n) × (member_at w i ≡ y) × (place_of set y ≡ i)
  member_found y k x i e f =
      let s = H.ready.held in
      let z = found_there f (held_ordered s H.ready.ascends) e.0
      (subst (λ (l : List Configuration). Memᴰ (stands_for x) l) (sym s.members)
      (subst (λ (c : Configuration). Memᴰ c set) (sym e.1) k)) in
      let same : member_at w i ≡ y = z.1 ∙ e.1 in (
        z.0,
        same,
        ap (place_of set) (sym same) ∙ held_place sheet set w n m s H.ready.ascends i z.0,
      )

  -- ---- steps stored behind the classes and births leave the rounds as they are
  module _ {u : List ℕ} (S : SameOutside steps_at steps_end w u) where
    pub rounds_kept : RoundsHeld sheet set u n m r count
    rounds_kept =
        rounds_held_same H (same_set_low (omega arith) S) (λ k h l. S.at k (inr (omega arith)))
        (classed_same H.ready.held.few.0 H.classed (λ k h l. S.at k (inr (omega arith))))

    -- classes can be numbered by first member
    pub rounds_numbered : NumberReady u n
    rounds_numbered = rounds_number_ready rounds_kept

-- ---- from the set to the report: w after the rounds, u with the trail from the places i and j, x with the report's classes
module _ {v : List ℕ} {n m : ℕ} {w : List ℕ} {r count : ℕ} (R : Refined v n m w r count) {i j : ℕ} {u : List ℕ} {k : ℕ}
    (T : Trailed w n (r + 1) i j u k) {x : List ℕ} (N : Renumbered u n x) where
  -- nothing behind the work places is changed
  pub report_outside : SameOutside 0 work_end v x
  report_outside =
      outside_then (outside_then (refined_outside R) T.outside 0 work_end (omega arith) (omega arith) (omega arith) (omega arith)) N.only
      0 work_end (omega arith) (omega arith) (omega arith) (omega arith)

  step_kept : k ≤ member_room → (l : ℕ) → l < k → step_in x l ≡ step_in u l
  step_kept few l h =
      let a = N.only.at (steps_at + 3 * l) (inl (omega arith)) in
      let b = N.only.at (steps_at + 3 * l + 1) (inl (omega arith)) in
      let c = N.only.at (steps_at + 3 * l + 2) (inl (omega arith)) in
      ap (λ (s : ℕ). record {
        side = s;
        label = get_or x (steps_at + 3 * l + 1) 0 / 65536;
        target = get_or x (steps_at + 3 * l + 1) 0 % 65536;
        reply = get_or x (steps_at + 3 * l + 2) 0;
      }) a
      ∙ ap₂ (λ (y z : ℕ). record { side = get_or u (steps_at + 3 * l) 0; label = y / 65536; target = y % 65536; reply = z }) b c

  module _ (L : LastRound v n m r) {sheet : Sheet} {set : List Configuration} {p q : Configuration} (S : StartsHeld sheet set v n m p q) where
    last_now : length (rounds sheet set) ≡ suc r
    last_now = L sheet set (starts_ready S)

    rounds_now : RoundsHeld sheet set w n m r count
    rounds_now = R.rounds_held sheet set (starts_ready S)

    numbered : SetHeld sheet set x n m × (classes_in x n ≡ classes sheet set r)
    numbered = N.numbers sheet set m r count (rounds_kept rounds_now T.outside)

    steps_are : tabulate (step_in x) k
        ≡ map (step_numbers set) (trail sheet set (rounds sheet set) (member_at w i) (member_at w j))
    steps_are = tabulate_same (step_in x) (step_in u) k (step_kept (omega (arith, T.short, R.bounds, numbered.0.few.0))) ∙ T.steps sheet set m (trail_held rounds_now last_now)

    -- the side of each step is a byte
    side_byte_lem : (l : ℕ) → l < k → side_in x l < 256
    side_byte_lem l h =
        let t : List TrailStep = trail sheet set (rounds sheet set) (member_at w i) (member_at w j) in
        let d : TrailStep = record { side = left; label = 0; target = nobody; reply = none } in
        let c : k ≡ length t =
        sym (tabulate_length (step_in x) k) ∙ ap length steps_are ∙ length-map t (step_numbers set) in
        let e : side_in x l ≡ side_byte (get_or t l d).side =
        ap (λ (s : StepNumbers). s.side)
        (sym (tabulate_at (step_in x) k l (step_in x l) h) ∙ ap (λ (s : List StepNumbers). get_or s l (step_in x l)) steps_are
        ∙ get_d_image (step_numbers set) t l d (step_in x l) (omega arith)) in
        omega (arith, e, side_small (get_or t l d).side)

    -- the report can be read from the slice
    pub report_held : ReportHeld x n k
    report_held = record {
      members = members_held numbered.0;
      steps = record {
        long = numbered.0.long;
        few = omega (arith, T.short, R.bounds, numbered.0.few.0);
        sides = side_byte_lem;
      };
    }

    -- and is document 01's
    pub report_agrees : member_at w i ≡ p → member_at w j ≡ q → Agrees (report_on sheet set p q) x n k
    unfolding report_on
    report_agrees ep eq = record {
      listed = members_agree numbered.0 S.ascends (result_numbers N (rounds_kept rounds_now T.outside) last_now);
      steps = steps_are
          ∙ ap₂ (λ (a b : Configuration). map (step_numbers set) (trail sheet set (rounds sheet set) a b)) ep eq;
    }

-- ---- the verdict
-- SAME where no round separates the two
same_is : (b : Bool) → b ≡ is_same (cond b SAME DIFF)
same_is true = refl
same_is false = refl

verdict_alike : (a b c d i j g h s t : ℕ) → a ≡ b → c ≡ d → i ≡ j → g ≡ h → s ≡ t → verdict_on a c i g s ≡ verdict_on b d j h t
verdict_alike a b c d i j g h s t ea ec ei eg es =
    ap₂ (λ (x y : ℕ). verdict_on x y i g s) ea ec ∙ ap₂ (λ (x y : ℕ). verdict_on b d x y s) ei eg ∙ ap (verdict_on b d j h) es

-- from the first round that separates the starts, the number of rounds, the places and the length in bytes
verdict_is : (sheet : Sheet) (set : List Configuration) (p q : Configuration)
    → verdict_on (apart_in set (rounds sheet set) p q) (length (rounds sheet set)) (place_of set p) (place_of set q)
    (report_length (report_on sheet set p q)) ≡ returned_of (report_on sheet set p q)
unfolding report_on
verdict_is sheet set p q =
    let a : ℕ = apart_in set (rounds sheet set) p q in
    let l : ℕ = length (rounds sheet set) in
    ap (λ (b : Bool). record {
      same = b;
      round = cond (eqb a l) (l - 1) a;
      left = place_of set p;
      right = place_of set q;
      length = report_length (report_on sheet set p q);
    }) (same_is (eqb a l))

-- ---- the answer
-- i and j are the places found for the starts; `size` is the length of the bytes that stand for the report
module _ {v : List ℕ} {n m : ℕ} {w : List ℕ} {r count : ℕ} (R : Refined v n m w r count) (L : LastRound v n m r) {i j : ℕ} {u : List ℕ} {k : ℕ}
    (T : Trailed w n (r + 1) i j u k) {x : List ℕ} (N : Renumbered u n x) (p q : struct.Configuration) (a b : Numbers)
    (ea : PackedIn a × (stands_for a ≡ configuration p)) (fa : FoundAt w n a i)
    (eb : PackedIn b × (stands_for b ≡ configuration q)) (fb : FoundAt w n b j)
    (size : ℕ) (es : size ≡ length (held_bytes x n k)) (before : List ℕ) where
  abbrev made : Sheet → List Configuration → spec.Report
  made sheet set = report_on sheet set (configuration p) (configuration q)

  abbrev Held : Sheet → List Configuration → Type 0
  Held sheet set = StartsHeld sheet set v n m (configuration p) (configuration q)

  module _ (sheet : Sheet) (set : List Configuration) (S : Held sheet set) where
    now_held : RoundsHeld sheet set w n m r count
    now_held = R.rounds_held sheet set (starts_ready S)

    last_held : length (rounds sheet set) ≡ suc r
    last_held = L sheet set (starts_ready S)

    left_at : (i < n) × (member_at w i ≡ configuration p) × (place_of set (configuration p) ≡ i)
    left_at = member_found now_held (configuration p) S.left a i ea fa

    right_at : (j < n) × (member_at w j ≡ configuration q) × (place_of set (configuration q) ≡ j)
    right_at = member_found now_held (configuration q) S.right b j eb fb

    bytes_are : held_bytes x n k ≡ report_bytes (made sheet set)
    bytes_are = held_report (made sheet set) x n k (report_agrees R T N L S left_at.1 right_at.1)

    size_is : size ≡ report_length (made sheet set)
    size_is = es ∙ ap length bytes_are

    verdict_found : (apart : ℕ) → apart ≡ apart_at w (r + 1) i j → verdict_on apart (r + 1) i j size ≡ returned_of (made sheet set)
    verdict_found apart e =
        let f : apart ≡ apart_in set (rounds sheet set) (configuration p) (configuration q) =
        e ∙ (trail_held now_held last_held).first_apart i j left_at.0 right_at.0
        ∙ ap₂ (λ (y z : Configuration). apart_in set (rounds sheet set) y z) left_at.1 right_at.1 in
        verdict_alike apart (apart_in set (rounds sheet set) (configuration p) (configuration q)) (r + 1) (length (rounds sheet set))
        i (place_of set (configuration p)) j (place_of set (configuration q)) size (report_length (made sheet set))
        f (omega (arith, last_held)) (sym left_at.2) (sym right_at.2) size_is
        ∙ verdict_is sheet set (configuration p) (configuration q)

  -- the answer slice is shorter than the report
  pub made_short : length before < size → ReportMade v before n m p q x before (refusal short_answer size)
  made_short h =
      subst (λ (z : ℕ). ReportMade v before n m p q x before (refusal short_answer z)) (sym es)
      (made_refused report_bytes returned made Held (report_outside R T N) (held_bytes x n k) bytes_are before (omega (arith, es)))

  -- the report is written into the front of the answer slice
  pub made_reported : size ≤ length before → (apart : ℕ) → apart ≡ apart_at w (r + 1) i j → (after : List ℕ)
      → after ≡ held_bytes x n k ++ drop (length (held_bytes x n k)) before
      → ReportMade v before n m p q x after (reported (verdict_on apart (r + 1) i j size))
  made_reported h apart e after f =
      made_given report_bytes returned made Held (report_outside R T N) (held_bytes x n k) bytes_are before (omega (arith, es)) f
      (λ sheet set S. ap reported (verdict_found sheet set S apart e))
