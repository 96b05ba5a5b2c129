-- Two calls that keep the promise, each within limits of its own.
use Rattle.answers.specs.Outcome.{Outcome, refusal, reported}
use Rattle.std.specs.Prelude.{◌≡◌, refl, List, ◌++◌, ℕ, ◌≤◌, length, take, drop}
use Rattle.std.proofs.Common.{sym, ap, ◌∙◌, arith}
use Rattle.std.proofs.Math.Seq.{take-append_seam}
use Rattle.answers.specs.Refusals.{short_answer}
use Rattle.answers.specs.SheetBytes.{ChoiceIs, ChoiceRefused}
use Rattle.answers.specs.SheetRead.{choice_reads}
use Rattle.compare_call.specs.RefusalNumbers.{number_low}
use Rattle.answers.specs.CallLimits.{Limits, NoGreater, limits, desk_limits, report_room}
use Rattle.answers.specs.Report as spec
use Rattle.answers.specs.Report.{report_bytes, report_length}
use Rattle.answers.specs.Call.{compare, compare_desk}
use Rattle.answers.specs.Promise.{report_for, starts_of, Reports}
use Rattle.compare_call.specs.CallTheorem.{call_gives, report_room_lem, room_suffices}
use Rattle.answer_laws.specs.RoomLaws.{never_short_answer}
use Rattle.compare_call.specs.LimitLaws.{desk_no_greater, report_same, gives_same, one_choice}
use Rattle.answers.specs.declared.Reported.{Reported}
use Rattle.answers.specs.Returned.{returned_of}
use Rattle.promise_laws.specs.PromiseLower.{lower_kept}
use Rattle.compare_call.specs.Compared.{Compared}
use Rattle.promise_laws.specs.CallPromise.{report_read, ReportPromise, CallPromise}
use Rattle.promise_laws.specs.TwoCalls.{OneReport, LowerCall}
use Rattle.call_theorem.specs.CallPromiseLaws.{same_report, document_promise, desk_promise}

-- ---- a report, whatever the slices
module _ (l : Limits) (bytes : List ℕ) (left right : ℕ) where
  -- what is returned of a report is fixed by what is read back
  returned_read : {v before w after : List ℕ} {x : Reported} → CallPromise l bytes left right v before w after (reported x)
      → x ≡ returned_of (report_read x after)
  returned_read {after = after} {x = x} a = same_report (a.to_give (report_read x after) (a.made x refl).reports)

  -- the bytes in front of the answer slice are the report's
  front_read : {v before w after : List ℕ} {x : Reported} → ReportPromise l bytes left right v before w after x
      → take x.length after ≡ report_bytes (report_read x after)
  front_read {before = before} {after = after} {x = x} m =
      let bs : List ℕ = report_bytes (report_read x after) in
      ap (λ (n : ℕ). take n after) m.long ∙ ap (take (length bs)) m.written ∙ take-append_seam bs (drop x.length before)

  -- no report is longer than the room that the limits name
  pub report_within : {v before w after : List ℕ} {x : Reported} → CallPromise l bytes left right v before w after (reported x)
      → x.length ≤ report_room l
  report_within {v} {before} {after = after} {x = x} a =
      let m = a.made x refl in
      omega (arith, m.long, room_suffices l bytes left right (length v) (length before) (report_read x after) m.reports)

  -- and with that room 22 is not given
  pub room_enough : {v before w after : List ℕ} {answer : Outcome Reported} {place : ℕ} → CallPromise l bytes left right v before w after answer
      → report_room l ≤ length before → answer ≡ refusal short_answer place → ⊥
  room_enough {place = place} a room e =
      never_short_answer
      (λ k x. omega (arith, (number_low bytes left right short_answer k ((choice_reads bytes left right).is_refused short_answer k x)).within))
      (λ sheet c none. omega (arith, room, report_room_lem l bytes left right sheet c none)) (a.refused short_answer place e).refuses

-- reports of one sheet and one choice are one
reports_same : (l h : Limits) (bytes : List ℕ) (left right : ℕ) {work answer work2 answer2 : ℕ} {r s : spec.Report}
    → Reports l bytes left right work answer r → Reports h bytes left right work2 answer2 s → r ≡ s
reports_same l h bytes left right =
    gives_same (ChoiceIs bytes left right) (ChoiceRefused bytes left right) (λ sheet. starts_of sheet left right) (λ k sheet. report_for k sheet left right)
    report_length (one_choice bytes left right) (λ k j sheet. report_same k j sheet left right) l h

module _ (l h : Limits) (bytes : List ℕ) (left right : ℕ) where
  -- Where both report, what they return and write is the same.
  pub one_report : {v before w after : List ℕ} {x : Reported} {v2 before2 w2 after2 : List ℕ} {y : Reported}
      → CallPromise l bytes left right v before w after (reported x) → CallPromise h bytes left right v2 before2 w2 after2 (reported y)
      → OneReport x after y after2
  one_report {after = after} {x = x} {after2 = after2} {y = y} a b =
      let m = a.made x refl in
      let n = b.made y refl in
      let same : report_read x after ≡ report_read y after2 = reports_same l h bytes left right m.reports n.reports in
      record {
        returns = returned_read l bytes left right a ∙ ap returned_of same ∙ sym (returned_read h bytes left right b);
        written = front_read l bytes left right m ∙ ap report_bytes same ∙ sym (front_read h bytes left right n);
      }

  -- ---- the same slices
  -- a report fixes what is left in both
  pub report_fixes : {v before w after w2 after2 : List ℕ} {x : Reported} → ReportPromise l bytes left right v before w after x
      → ReportPromise h bytes left right v before w2 after2 x → (after ≡ after2) × (w ≡ w2)
  report_fixes {before = before} {after = after} {after2 = after2} {x = x} m n =
      let same : report_read x after ≡ report_read x after2 = reports_same l h bytes left right m.reports n.reports in
      (m.written ∙ ap (λ (y : spec.Report). report_bytes y ++ drop x.length before) same ∙ sym n.written, m.work ∙ sym n.work)

  module _ (v before : List ℕ) {w after : List ℕ} {answer : Outcome Reported} {w2 after2 : List ℕ} {answer2 : Outcome Reported}
      (a : CallPromise l bytes left right v before w after answer) (b : CallPromise h bytes left right v before w2 after2 answer2) where
    -- Card 3, for any two limits of which the first are nowhere above the second.
    pub lower_call : NoGreater l h → LowerCall l bytes left right w after answer w2 after2 answer2
    lower_call le =
        lower_kept bytes left right (λ k sheet. report_for k sheet left right) report_length (λ k j sheet. report_same k j sheet left right) l h le a b
        (λ x. report_fixes) (call_gives l bytes left right (length v) (length before))

-- ---- the desk's call beside document 01's, from the contracts of both
module _ (bytes : List ℕ) (left right : ℕ) where
  pub desk_lower : (v before w after : List ℕ) (answer : Outcome Reported) (w2 after2 : List ℕ) (answer2 : Outcome Reported)
      → Compared (compare_desk bytes left right (length v) (length before)) v before w after answer
      → Compared (compare bytes left right (length v) (length before)) v before w2 after2 answer2
      → LowerCall desk_limits bytes left right w after answer w2 after2 answer2
  desk_lower v before w after answer w2 after2 answer2 a b =
      lower_call desk_limits limits bytes left right v before
      (desk_promise bytes left right v before w after answer a) (document_promise bytes left right v before w2 after2 answer2 b) desk_no_greater

  -- both report, each in slices of its own
  pub desk_report : (v before w after : List ℕ) (x : Reported) (v2 before2 w2 after2 : List ℕ) (y : Reported)
      → Compared (compare_desk bytes left right (length v) (length before)) v before w after (reported x)
      → Compared (compare bytes left right (length v2) (length before2)) v2 before2 w2 after2 (reported y)
      → OneReport x after y after2
  desk_report v before w after x v2 before2 w2 after2 y a b =
      one_report desk_limits limits bytes left right
      (desk_promise bytes left right v before w after (reported x) a) (document_promise bytes left right v2 before2 w2 after2 (reported y) b)
