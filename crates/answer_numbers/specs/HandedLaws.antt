-- What a caller in C gets of the call within lower limits is what the call within higher ones hands out, or 21 (document 02, card 3).
use Rattle.std.specs.Prelude.{◌≡◌, ◌⊎◌, List, ℕ, length}
use Rattle.std.proofs.Common.{ap, ◌∙◌, subst, inl, inr, ⊎_elim}
use Rattle.answers.specs.Refusals.{large_set}
use Rattle.answers.specs.SheetBytes.{ChoiceIs, ChoiceRefused}
use Rattle.answers.specs.CallLimits.{Limits, NoGreater}
use Rattle.answers.specs.Outcome.{Outcome, refusal}
use Rattle.answers.specs.Report.{report_length}
use Rattle.answers.specs.Call.{compare_with}
use Rattle.answers.specs.Promise.{report_for, starts_of}
use Rattle.compare_call.specs.CallTheorem.{call_gives, refuses_exactly, reports_exactly}
use Rattle.compare_call.specs.LimitLaws.{report_same, beside, outcomes_beside, one_choice}
use Rattle.answer_numbers.specs.AnswerNumbers.{outcome_number, HandedBy, Handed}

-- any two calls whose outcomes are one, or the first is 21: the returned number, the result's numbers and both slices
pub handed_beside : {A : Type 0} {written : A → List ℕ} {numbered : Outcome A → List ℕ} {o p : Outcome A} {v before w after numbers : List ℕ} {number : ℕ}
    → (o ≡ p) ⊎ (o ≡ refusal large_set 0) → HandedBy written numbered o v before w after numbers number
    → HandedBy written numbered p v before w after numbers number ⊎ (number ≡ large_set)
handed_beside {A} {written} {numbered} {o} {p} {v} {before} {w} {after} {numbers} {number} d a =
    ⊎_elim (λ (e : o ≡ p). inl (subst (λ (q : Outcome A). HandedBy written numbered q v before w after numbers number) e a))
    (λ (e : o ≡ refusal large_set 0). inr (a.returns ∙ ap outcome_number e)) d

-- the comparing call
pub handed_lower : (l h : Limits) → NoGreater l h → (bytes : List ℕ) (left right : ℕ) {v before w after numbers : List ℕ} {number : ℕ}
    → Handed (compare_with l bytes left right (length v) (length before)) v before w after numbers number
    → Handed (compare_with h bytes left right (length v) (length before)) v before w after numbers number ⊎ (number ≡ large_set)
handed_lower l h le bytes left right {v} {before} =
    handed_beside
    (outcomes_beside (compare_with l bytes left right (length v) (length before)) (compare_with h bytes left right (length v) (length before))
    (refuses_exactly l bytes left right (length v) (length before)) (reports_exactly l bytes left right (length v) (length before))
    (refuses_exactly h bytes left right (length v) (length before)) (reports_exactly h bytes left right (length v) (length before))
    (beside (ChoiceIs bytes left right) (ChoiceRefused bytes left right) (λ sheet. starts_of sheet left right) (λ k sheet. report_for k sheet left right)
    report_length (one_choice bytes left right) (λ k j sheet. report_same k j sheet left right) l h le
    (call_gives l bytes left right (length v) (length before))))
