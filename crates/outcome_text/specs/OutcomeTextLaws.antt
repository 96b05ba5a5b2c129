-- Each variant of the call's answer is printed as the outcome that is returned so.
use Rattle.std.specs.Prelude.{◌≡◌, refl, Bool, true, false, cond, List, [], ◌∷◌, ◌++◌, ℕ, ◌≤◌, ◌<◌, length, take, drop, ltb}
use Rattle.std.proofs.Common.{sym, ap, ap₂, ◌∙◌, subst, arith, le-ltb, lt-ltb}
use Rattle.std.proofs.Math.Seq.{take-append_seam}
use Rattle.text.specs.Lines.{line, refused_word}
use Rattle.answers.specs.Report as spec
use Rattle.answers.specs.Report.{Verdict, SAME, DIFF, report_bytes, report_length, Compares}
use Rattle.answers.specs.Outcome.{reported, refusal, Outcome}
use Rattle.answers.specs.Call.{answer_after, compare}
use Rattle.answers.specs.Print.{printed}
use Rattle.answers.specs.CallLimits.{limits}
use Rattle.report_text.specs.FittingLaws.{outcome_fits}
use Rattle.text.specs.Slices.{line_room, Written}
use Rattle.report_text.specs.ReportText as report
use Rattle.report_text.specs.ReportText.{ReportWritten}
use Rattle.answers.specs.declared.Reported.{Reported}
use Rattle.answers.specs.Returned.{is_same, returned_of, returned}
use Rattle.outcome_text.specs.OutcomeText.{answered_text, Printable, OutcomeWritten, OutcomeStored}
use Rattle.outcome_text.specs.TextRoom.{text_room}

-- an answer after a report begins with its bytes
pub answer_begins : (q : spec.Report) (before after : List ℕ) → after ≡ answer_after (reported q) before
    → take (report_length q) after ≡ report_bytes q
answer_begins q before after e =
    ap (take (report_length q)) e ∙ take-append_seam (report_bytes q) (drop (report_length q) before)

-- what the call returns and leaves in the answer slice can be printed
pub call_answered : (bytes : List ℕ) (first second work room : ℕ) (before after : List ℕ) (o : Compares)
    → compare bytes first second work room ≡ o → after ≡ answer_after o before → Printable o after
call_answered bytes first second work room before after (reported q) e a =
    (outcome_fits limits (record { members = omega arith; threads = omega arith; moves = omega arith }) bytes first second work room q e, answer_begins q before after a)
call_answered bytes first second work room before after (refusal number place) e a = tt

-- the two tests of a verdict are one
same_test_of : (v : Verdict) → is_same v ≡ report.is_same v
same_test_of SAME = refl
same_test_of DIFF = refl

-- the text of a report
pub report_outcome : {r : Outcome Reported} {x : Reported} → r ≡ reported x → (answer before after : List ℕ) (k : ℕ)
    → ReportWritten x.same x.round answer before after k → OutcomeStored r answer before after k
report_outcome {r} {x} is answer before after k w = record {
  slice = subst (λ (q : Outcome Reported). after ≡ answered_text q answer ++ drop (length (answered_text q answer)) before) (sym is) w.slice;
  long = subst (λ (q : Outcome Reported). k ≡ length (answered_text q answer)) (sym is) w.count;
  text = λ o e a. (both o (sym is ∙ e) a).1;
  count = λ o e a. (both o (sym is ∙ e) a).0;
  inside = w.inside;
  counted = w.counted;
}
  where
    both : (o : Compares) → reported x ≡ returned o → Printable o answer
        → (k ≡ length (printed o)) × (after ≡ printed o ++ drop (length (printed o)) before)
    both (reported q) e a =
        let x-is : x ≡ returned_of q = cc in
        w.report q a.0 (ap (λ (y : Reported). y.same) x-is ∙ same_test_of q.verdict) (ap (λ (y : Reported). y.round) x-is) a.1
    both (refusal number place) e a = let z : ◌≡◌ {A = ℕ} 0 1 = cc in absurd (omega arith)

-- the line of a refusal
pub refusal_outcome : {r : Outcome Reported} {number place : ℕ} → r ≡ refusal number place → (answer before after : List ℕ) (k : ℕ)
    → line_room ≤ length before → Written (line refused_word (number ∷ place ∷ [])) before after k → OutcomeStored r answer before after k
refusal_outcome {r} {number} {place} is answer before after k room w = record {
  slice = subst (λ (q : Outcome Reported). after ≡ answered_text q answer ++ drop (length (answered_text q answer)) before) (sym is) written.1;
  long = subst (λ (q : Outcome Reported). k ≡ length (answered_text q answer)) (sym is) written.0;
  text = λ o e a. (both o (sym is ∙ e)).1;
  count = λ o e a. (both o (sym is ∙ e)).0;
  inside = w.inside;
  counted = w.counted;
}
  where
    whole : ltb (length before) line_room ≡ false
    whole = le-ltb (length before) line_room room

    -- what was written, as a text with room
    written : (k ≡ length (printed (refusal number place)))
        × (after ≡ printed (refusal number place) ++ drop (length (printed (refusal number place))) before)
    written =
        let text : List ℕ = line refused_word (number ∷ place ∷ []) in
        let rest : List ℕ = drop (length text) before in
        (w.count ∙ ap (λ (b : Bool). cond b 0 (length text)) whole, w.slice ∙ ap (λ (b : Bool). cond b before (text ++ rest)) whole)

    both : (o : Compares) → refusal number place ≡ returned o
        → (k ≡ length (printed o)) × (after ≡ printed o ++ drop (length (printed o)) before)
    both (reported q) e = let z : ◌≡◌ {A = ℕ} 0 1 = cc in absurd (omega arith)
    both (refusal n p) e =
        let number_is : number ≡ n = cc in
        let place_is : place ≡ p = cc in
        let same : refusal number place ≡ refusal n p = ap₂ refusal number_is place_is in
        subst (λ (o : Compares). (k ≡ length (printed o)) × (after ≡ printed o ++ drop (length (printed o)) before)) same written

-- ---- the room
-- a slice that is too short is left as it is
pub outcome_short : (r : Outcome Reported) (answer out : List ℕ) → length out < text_room → OutcomeWritten r answer out out 0
outcome_short r answer out h =
    let short : ltb (length out) text_room ≡ true = lt-ltb (length out) text_room h in
    record {
      slice = ap (λ (b : Bool). cond b out (answered_text r answer ++ drop (length (answered_text r answer)) out)) (sym short);
      long = ap (λ (b : Bool). cond b 0 (length (answered_text r answer))) (sym short);
      text = λ o e a. ap (λ (b : Bool). cond b out (printed o ++ drop (length (printed o)) out)) (sym short);
      count = λ o e a. ap (λ (b : Bool). cond b 0 (length (printed o))) (sym short);
      inside = omega arith;
      counted = refl;
    }

pub outcome_written : {r : Outcome Reported} {answer out after : List ℕ} {k : ℕ} → text_room ≤ length out → OutcomeStored r answer out after k
    → OutcomeWritten r answer out after k
outcome_written {r = r} {answer = answer} {out = out} h s =
    let room : ltb (length out) text_room ≡ false = le-ltb (length out) text_room h in
    record {
      slice = s.slice ∙ ap (λ (b : Bool). cond b out (answered_text r answer ++ drop (length (answered_text r answer)) out)) (sym room);
      long = s.long ∙ ap (λ (b : Bool). cond b 0 (length (answered_text r answer))) (sym room);
      text = λ o e a. s.text o e a ∙ ap (λ (b : Bool). cond b out (printed o ++ drop (length (printed o)) out)) (sym room);
      count = λ o e a. s.count o e a ∙ ap (λ (b : Bool). cond b 0 (length (printed o))) (sym room);
      inside = s.inside;
      counted = s.counted;
    }
