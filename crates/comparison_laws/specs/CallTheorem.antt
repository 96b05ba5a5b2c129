-- The whole call: a report is faithful, and each refusal is given under its condition and no other, in document 01's order.
use Rattle.std.specs.Prelude.{◌≡◌, refl, ◌↔◌, List, [], ℕ, ◌≤◌, length}
use Rattle.std.proofs.Common.{sym, subst, arith}
use mathlib.Core.List.Memᴰ
use Rattle.move_laws.specs.ListPlaces.{get_d_in}
use Rattle.move_laws.specs.Sheet.{Configuration, Sheet, start}
use Rattle.move_laws.specs.WellFormed.{WellFormed, Admissible}
use Rattle.comparison.specs.SheetBytes.{ChoiceIs, ChoiceRefused}
use Rattle.comparison.specs.Reading.{read_choice}
use Rattle.comparison.specs.SheetRead.{choice_reads}
use Rattle.move_laws.specs.ReadingLaws.{written_admissible}
use Rattle.comparison.specs.CallLimits.{Limits, report_room}
use Rattle.comparison.specs.Set.{explored}
use Rattle.comparison.specs.Report.{Report, report_on, report_bytes, report_length, Compares}
use Rattle.comparison.specs.Outcome.{reported, refusal}
use Rattle.comparison.specs.Call.{compare_with}
use Rattle.comparison.specs.Promise.{PassesLimit, report_for, starts_of, Refuses, Reports, Faithful}
use Rattle.comparison_laws.specs.SetLaws.{fits_unpassed, fits_not_over, explored_closed, explored_seeds}
use Rattle.comparison_laws.specs.ResultLaws.{result_is, rounds_of}
use Rattle.comparison_laws.specs.ReportLaws.{report_room_within}
use Rattle.comparison_laws.specs.FrameTheorem.{Decides, frame_decides, frame_refuses, frame_gives}
use Rattle.comparison_laws.specs.Theorem.{member_some, report_faithful}

-- what a call gives
abbrev pub Gives : Limits → List ℕ → ℕ → ℕ → ℕ → ℕ → Compares → Type 0
Gives l bytes left right work answer = Decides (Refuses l bytes left right work answer) (Reports l bytes left right work answer)

-- what the call makes of a sheet and its set
abbrev report_made : ℕ → ℕ → Sheet → List Configuration → Report
report_made left right sheet set = report_on sheet set (start sheet left) (start sheet right)

module _ (l : Limits) (bytes : List ℕ) (left right work answer : ℕ) where
  -- every call gives a report or a refusal under its condition
  pub call_gives : Gives l bytes left right work answer (compare_with l bytes left right work answer)
  unfolding compare_with
  call_gives =
      frame_decides (ChoiceIs bytes left right) (ChoiceRefused bytes left right) (length bytes) (read_choice bytes left right) (choice_reads bytes left right)
      l (λ sheet. starts_of sheet left right) (report_made left right) report_bytes work answer

  -- Demand 3 for the call: what is reported is faithful.
  pub call_faithful : (r : Report) → Reports l bytes left right work answer r
      → (sheet : Sheet) × ChoiceIs bytes left right sheet × Faithful sheet (start sheet left) (start sheet right) r
  call_faithful r g =
      let sheet : Sheet = g.sheet in
      let c = g.read in
      let fine : Admissible sheet = written_admissible bytes sheet c.written in (
        sheet,
        c,
        subst (λ (x : Report). Faithful sheet (start sheet left) (start sheet right) x) (sym g.given)
            (report_faithful sheet fine.well_formed l (start sheet left) (start sheet right)
            (fine.starts_fit (start sheet left) (get_d_in sheet.starts left (record { store = 0; threads = [] }) c.left_there))
            (fine.starts_fit (start sheet right) (get_d_in sheet.starts right (record { store = 0; threads = [] }) c.right_there))
            (fits_unpassed sheet l (starts_of sheet left right) g.no_limit)),
      )

  -- Demand 1: each refusal occurs under its condition and under no other, and a report under none.
  pub refuses_exactly : (number place : ℕ) → (compare_with l bytes left right work answer ≡ refusal number place) ↔ Refuses l bytes left right work answer number place
  unfolding compare_with
  refuses_exactly =
      frame_refuses (ChoiceIs bytes left right) (ChoiceRefused bytes left right) (length bytes) (read_choice bytes left right) (choice_reads bytes left right)
      l (λ sheet. starts_of sheet left right) (report_made left right) report_bytes work answer

  pub reports_exactly : (r : Report) → (compare_with l bytes left right work answer ≡ reported r) ↔ Reports l bytes left right work answer r
  unfolding compare_with
  reports_exactly =
      frame_gives (ChoiceIs bytes left right) (ChoiceRefused bytes left right) (length bytes) (read_choice bytes left right) (choice_reads bytes left right)
      l (λ sheet. starts_of sheet left right) (report_made left right) report_bytes work answer

-- ---- the room that the limits name
-- it suffices for the report that a sheet and a choice ask for
pub report_room_lem : (l : Limits) (bytes : List ℕ) (left right : ℕ) (sheet : Sheet) → ChoiceIs bytes left right sheet
    → (PassesLimit sheet l (starts_of sheet left right) → ⊥) → report_length (report_for l sheet left right) ≤ report_room l
report_room_lem l bytes left right sheet c none =
    let wf : WellFormed sheet = (written_admissible bytes sheet c.written).well_formed in
    let set : List Configuration = explored sheet l (starts_of sheet left right) in
    let within = fits_not_over sheet l (starts_of sheet left right) (fits_unpassed sheet l (starts_of sheet left right) none) in
    let closed = explored_closed sheet l (starts_of sheet left right) within in
    let some = member_some set (explored_seeds sheet l (starts_of sheet left right) (start sheet left) (Memᴰ.head refl)) in
    report_room_within sheet l set (start sheet left) (start sheet right) within
    (omega (arith, (result_is sheet set wf closed some).few, (rounds_of sheet set wf closed some).some))

-- and so for every report of the call
pub room_suffices : (l : Limits) (bytes : List ℕ) (left right work answer : ℕ) (r : Report) → Reports l bytes left right work answer r
    → report_length r ≤ report_room l
room_suffices l bytes left right work answer r g =
    subst (λ (x : Report). report_length x ≤ report_room l) (sym g.given) (report_room_lem l bytes left right g.sheet g.read g.no_limit)
