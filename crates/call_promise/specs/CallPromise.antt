-- The promise of the call, within limits that are given, said of what is returned and of what stands in both slices afterwards, with
-- demand 3 in it. A report is the one that is read back from the returned value and the answer's bytes. Document 01's call has it
-- at document 01's limits.
use Rattle.std.specs.Prelude.{◌≡◌, Bool, true, false, List, ◌++◌, ℕ, length, drop}
use Rattle.answers.specs.Sheet.{Sheet, start}
use Rattle.answers.specs.SheetBytes.{ChoiceIs}
use Rattle.answers.specs.CallLimits.{Limits}
use Rattle.answers.specs.Report as spec
use Rattle.answers.specs.Report.{Verdict, SAME, DIFF, report_bytes, report_length}
use Rattle.answers.specs.Outcome.{cleared, Outcome, refusal, reported}
use Rattle.answers.specs.Promise.{PromiseBy, Refuses, Reports, Faithful}
use Rattle.answers.specs.OutcomeOf.{CallResult, outcome_of}
use Rattle.answers.specs.ReadBack.{read_back_lem}
use Rattle.answers.specs.declared.Reported.{Reported}
use Rattle.answers.specs.Returned.{returned_of}

abbrev pub verdict_read : Bool → Verdict
verdict_read true = SAME
verdict_read false = DIFF

-- the report that is read back from what was returned and from the answer slice
abbrev pub report_read : Reported → List ℕ → spec.Report
report_read x answer = read_back_lem (verdict_read x.same) x.round x.left x.right answer

-- What goes with a report: what is read back is the report that the sheet and the choice ask for, and it is faithful to the
-- sheet; its bytes stand in front of the answer slice, and the rest of it is as before; the work slice is cleared.
pub record ReportPromise (l : Limits) (bytes : List ℕ) (left right : ℕ) (v before w after : List ℕ) (x : Reported) : Type 1 where
  pub reports : Reports l bytes left right (length v) (length before) (report_read x after)
  pub faithful : (sheet : Sheet) × ChoiceIs bytes left right sheet × Faithful sheet (start sheet left) (start sheet right) (report_read x after)
  pub long : x.length ≡ report_length (report_read x after)
  pub written : after ≡ report_bytes (report_read x after) ++ drop x.length before
  pub work : w ≡ cleared v

-- The work slice v became w, the answer slice `before` became `after`, and `answer` was returned: each refusal under its condition
-- and no other, and otherwise the report.
abbrev pub CallPromise : Limits → List ℕ → ℕ → ℕ → List ℕ → List ℕ → List ℕ → List ℕ → Outcome Reported → Type 1
CallPromise l bytes left right =
    PromiseBy refusal (Refuses l bytes left right) reported returned_of (Reports l bytes left right) (ReportPromise l bytes left right)

-- The same of the value that the code returns.
abbrev pub ReturnedPromise : Limits → List ℕ → ℕ → ℕ → List ℕ → List ℕ → List ℕ → List ℕ → CallResult Reported → Type 1
ReturnedPromise l bytes left right v before w after r = CallPromise l bytes left right v before w after (outcome_of r)
