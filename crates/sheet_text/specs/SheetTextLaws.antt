-- What the call returned and wrote is printed as its outcome.
use Rattle.answers.specs.Outcome.{Outcome}
use Rattle.std.specs.Prelude.{◌≡◌, refl, List, ℕ, length}
use Rattle.std.proofs.Common.{sym, ap₂, subst}
use Rattle.work_layout.specs.CallLimits.{limits, work_length, report_room}
use Rattle.work_layout.specs.Report.{Compares}
use Rattle.answers.specs.Call.{compare}
use Rattle.compare_call.specs.Compared.{Compared}
use Rattle.answers.specs.declared.Reported.{Reported}
use Rattle.outcome_text.specs.OutcomeText.{OutcomeWritten}
use Rattle.outcome_text.specs.OutcomeTextLaws.{call_answered}
use Rattle.sheet_text.specs.SheetText.{SheetWritten}

pub sheet_written : (bytes : List ℕ) {v before w answer : List ℕ} {r : Outcome Reported} {out after : List ℕ} {k : ℕ}
    → work_length ≡ length v → report_room limits ≡ length before
    → Compared (compare bytes 0 1 (length v) (length before)) v before w answer r → OutcomeWritten r answer out after k
    → SheetWritten bytes out after k
sheet_written bytes {v} {before} {w} {answer} {r} {out} {after} {k} a b c o =
    let e : compare bytes 0 1 (length v) (length before) ≡ compare bytes 0 1 work_length (report_room limits) =
    ap₂ (compare bytes 0 1) (sym a) (sym b) in
    let x : Compared (compare bytes 0 1 work_length (report_room limits)) v before w answer r =
    subst (λ (y : Compares). Compared y v before w answer r) e c in
    let y = call_answered bytes 0 1 work_length (report_room limits) before answer
    (compare bytes 0 1 work_length (report_room limits)) refl x.bytes in
    record {
      text = o.text (compare bytes 0 1 work_length (report_room limits)) x.answers y;
      count = o.count (compare bytes 0 1 work_length (report_room limits)) x.answers y;
      inside = o.inside;
      counted = o.counted;
    }
