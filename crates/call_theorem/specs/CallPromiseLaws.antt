-- The call keeps its promise.
use Rattle.std.specs.Prelude.{◌≡◌, refl, List, ◌++◌, ℕ, length, drop}
use Rattle.std.proofs.Common.{sym, ap, ap₂, ◌∙◌, subst}
use Rattle.answers.specs.Sheet.{start}
use Rattle.answers.specs.CallLimits.{Limits, NoGreater, limits, desk_limits}
use Rattle.answers.specs.Report as spec
use Rattle.answers.specs.Report.{Verdict, SAME, DIFF, report_bytes, report_length}
use Rattle.answers.specs.Outcome.{reported, cleared, Outcome, refusal}
use Rattle.answers.specs.Call.{compare_with, compare, compare_desk, answer_after}
use Rattle.answers.specs.Promise.{Refuses, Reports, Faithful}
use Rattle.compare_call.specs.CallTheorem.{refuses_exactly, reports_exactly, call_faithful}
use Rattle.compare_call.specs.LimitLaws.{own_limits, desk_no_greater}
use Rattle.answers.specs.declared.Reported.{Reported}
use Rattle.answers.specs.Returned.{is_same, returned_of, returned}
use Rattle.answer_laws.specs.Fitting.{Fitting}
use Rattle.answer_laws.specs.FittingLaws.{outcome_fits}
use Rattle.answers.specs.ReadBack.{read_back_lem}
use Rattle.answer_laws.specs.ReadBackLaws.{read_back}
use Rattle.promise_laws.specs.PromiseKept.{Variants, promise_kept}
use Rattle.compare_call.specs.Compared.{Compared}
use Rattle.promise_laws.specs.TwoCallSentences.{report_never}
use Rattle.promise_laws.specs.CallPromise.{verdict_read, report_read, ReportPromise, CallPromise}

-- a report that was returned is one
pub same_report : {x y : Reported} → reported x ≡ reported y → x ≡ y
same_report e = cc

-- a report is no refusal, and each of both has its own arguments
variants : Variants {X = Reported} refusal reported
variants = record { never = λ x number place. report_never; one_refusal = λ k p number place e. (cc, cc); one_given = λ x y. same_report }

verdict_back : (v : Verdict) → verdict_read (is_same v) ≡ v
verdict_back SAME = refl
verdict_back DIFF = refl

-- what is read back from a report that was returned and written is the report
report_back : (r : spec.Report) (x : Reported) (before after : List ℕ) → x ≡ returned_of r → after ≡ answer_after (reported r) before
    → Fitting r → report_read x after ≡ r
report_back r x before after e a fit =
    ap₂ report_read e a
    ∙ ap (λ (v : Verdict). read_back_lem v r.round r.left_place r.right_place (answer_after (reported r) before)) (verdict_back r.verdict)
    ∙ read_back r (drop (report_length r) before) fit

module _ (l : Limits) (small : NoGreater l limits) (bytes : List ℕ) (left right : ℕ) (v before w after : List ℕ) (answer : Outcome Reported) where
  -- what goes with a report that was returned and written
  report_made_lem : (r : spec.Report) → Reports l bytes left right (length v) (length before) r → (x : Reported) → x ≡ returned_of r
      → after ≡ answer_after (reported r) before → w ≡ cleared v → ReportPromise l bytes left right v before w after x
  report_made_lem r g x says bytes_are work-is =
      let back : report_read x after ≡ r =
      report_back r x before after says bytes_are
      (outcome_fits l small bytes left right (length v) (length before) r ((reports_exactly l bytes left right (length v) (length before) r).1 g)) in
      let long : x.length ≡ report_length r = ap (λ (y : Reported). y.length) says in
      record {
        reports = subst (Reports l bytes left right (length v) (length before)) (sym back) g;
        faithful =
            let f = call_faithful l bytes left right (length v) (length before) r g in
            (f.0, f.1, subst (Faithful f.0 (start f.0 left) (start f.0 right)) (sym back) f.2);
        long = long ∙ ap report_length (sym back);
        written = bytes_are ∙ ap₂ (λ (q : spec.Report) (k : ℕ). report_bytes q ++ drop k before) (sym back) (sym long);
        work = work-is;
      }

  -- the call keeps it
  pub call_promise : Compared (compare_with l bytes left right (length v) (length before)) v before w after answer
      → CallPromise l bytes left right v before w after answer
  call_promise =
      promise_kept report_bytes returned (Refuses l bytes left right) returned_of (Reports l bytes left right) (ReportPromise l bytes left right) variants
      (λ number place. refl) (λ r. refl) (compare_with l bytes left right (length v) (length before))
      (refuses_exactly l bytes left right (length v) (length before)) (reports_exactly l bytes left right (length v) (length before)) report_made_lem

-- document 01's call keeps it, at document 01's limits
pub document_promise : (bytes : List ℕ) (left right : ℕ) (v before w after : List ℕ) (answer : Outcome Reported)
    → Compared (compare bytes left right (length v) (length before)) v before w after answer
    → CallPromise limits bytes left right v before w after answer
document_promise = call_promise limits (own_limits limits)

-- the desk's call keeps it, at the desk's
pub desk_promise : (bytes : List ℕ) (left right : ℕ) (v before w after : List ℕ) (answer : Outcome Reported)
    → Compared (compare_desk bytes left right (length v) (length before)) v before w after answer
    → CallPromise desk_limits bytes left right v before w after answer
desk_promise = call_promise desk_limits desk_no_greater
