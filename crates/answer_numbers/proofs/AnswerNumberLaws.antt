-- The numbers of the library's answer are those of the outcome; no refusal has the number 0.
use Rattle.std.specs.Prelude.{◌≡◌, refl, List, [], ◌∷◌, ℕ, ◌≤◌}
use Rattle.std.proofs.Common.{sym, ap, ◌∙◌, arith}
use Rattle.answers.specs.Sheet.{Configuration, Sheet}
use Rattle.answers.specs.CallLimits.{Limits}
use Rattle.answers.specs.Report.{Verdict, SAME, DIFF, report_length, Compares}
use Rattle.answers.specs.Outcome.{Outcome, reported, refusal}
use Rattle.answers.specs.Call.{compare_with}
use Rattle.answers.specs.Promise.{RefusesBy, by_sheet, short_work_lem, large_set_lem, short_answer_lem}
use Rattle.compare_call.specs.CallTheorem.{refuses_exactly}
use Rattle.answers.specs.declared.Reported.{Reported}
use Rattle.answers.specs.Returned.{is_same, returned}
use Rattle.compare_call.specs.Answered.{Answered}
use Rattle.compare_call.specs.Compared.{Compared}
use Rattle.answers.specs.SheetRead.{choice_reads}
use Rattle.compare_call.specs.RefusalNumbers.{number_low}
use Rattle.answer_numbers.specs.AnswerNumbers.{outcome_number, outcome_numbers, verdict_number, HandedBy, Handed, same_number_lem, answer_numbers}

verdict_is : (v : Verdict) → same_number_lem (is_same v) ≡ verdict_number v
verdict_is SAME = refl
verdict_is DIFF = refl

number_is : (o : Compares) → outcome_number (returned o) ≡ outcome_number o
number_is (reported r) = refl
number_is (refusal number place) = refl

numbers_are : (o : Compares) → answer_numbers (returned o) ≡ outcome_numbers o
numbers_are (reported r) =
    ap (λ (k : ℕ). k ∷ r.round ∷ r.left_place ∷ r.right_place ∷ report_length r ∷ 0 ∷ []) (verdict_is r.verdict)
numbers_are (refusal number place) = refl

-- the numbers of either answer
pub report_numbers : {r : Outcome Reported} {x : Reported} {k : ℕ} → r ≡ reported x → k ≡ same_number_lem x.same
    → ◌≡◌ {A = List ℕ} (k ∷ x.round ∷ x.left ∷ x.right ∷ x.length ∷ 0 ∷ []) (answer_numbers r)
report_numbers {r} {x} {k} e h =
    ap (λ (j : ℕ). j ∷ x.round ∷ x.left ∷ x.right ∷ x.length ∷ 0 ∷ []) h ∙ ap answer_numbers (sym e)

pub refusal_numbers : {r : Outcome Reported} {number place : ℕ} → r ≡ refusal number place
    → ◌≡◌ {A = List ℕ} (0 ∷ 0 ∷ 0 ∷ 0 ∷ 0 ∷ place ∷ []) (answer_numbers r)
refusal_numbers e = ap answer_numbers (sym e)

-- what any call left, with the numbers of its answer, where those are the outcome's
pub answered_handed : {A R : Type 0} {written : A → List ℕ} {returned : Outcome A → R} {numbered : Outcome A → List ℕ} (number_of_lem : R → ℕ)
    (numbers_of : R → List ℕ) {o : Outcome A} {v before w after : List ℕ} {r : R} {number : ℕ} {numbers : List ℕ}
    → Answered written returned o v before w after r → number ≡ number_of_lem r → numbers ≡ numbers_of r
    → number_of_lem (returned o) ≡ outcome_number o → numbers_of (returned o) ≡ numbered o → HandedBy written numbered o v before w after numbers number
answered_handed number_of_lem numbers_of c n ns is are =
    record {
      returns = n ∙ ap number_of_lem c.answers ∙ is;
      result = ns ∙ ap numbers_of c.answers ∙ are;
      bytes = c.bytes;
      works = c.works;
    }

-- the comparing call
pub call_handed : {o : Compares} {v before w after : List ℕ} {r : Outcome Reported} {number : ℕ} {numbers : List ℕ} → Compared o v before w after r
    → number ≡ outcome_number r → numbers ≡ answer_numbers r → Handed o v before w after numbers number
call_handed {o} c n ns = answered_handed outcome_number answer_numbers c n ns (number_is o) (numbers_are o)

-- a number of the frame's is at least 1, where those of reading are
pub refuses_above : {Is : Sheet → Type 0} {Not : ℕ → ℕ → Type 0} {l : Limits} {seeds : Sheet → List Configuration} {needed : Sheet → ℕ} {work answer number place : ℕ}
    → ((n p : ℕ) → Not n p → 1 ≤ n) → RefusesBy Is Not l seeds needed work answer number place → 1 ≤ number
refuses_above {number = number} {place} f (by_sheet e) = f number place e
refuses_above f (short_work_lem sheet r h) = omega arith
refuses_above f (large_set_lem sheet r h p) = omega arith
refuses_above f (short_answer_lem sheet r h p k) = omega arith

-- so 0 is returned for a report alone
pub refusal_above : (l : Limits) (bytes : List ℕ) (left right work answer number place : ℕ)
    → compare_with l bytes left right work answer ≡ refusal number place → 1 ≤ number
refusal_above l bytes left right work answer number place e =
    refuses_above (λ n p x. (number_low bytes left right n p ((choice_reads bytes left right).is_refused n p x)).above)
    ((refuses_exactly l bytes left right work answer number place).0 e)
