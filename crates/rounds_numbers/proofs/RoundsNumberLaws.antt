-- The numbers of the library's answer are those of the outcome; no refusal has the number 0.
use Rattle.std.specs.Prelude.{◌≡◌, refl, ◌⊎◌, List, [], ◌∷◌, ℕ, ◌≤◌, length}
use Rattle.std.proofs.Common.{sym, ap, ◌∙◌}
use Rattle.answer_numbers.specs.Refusals.{large_set}
use Rattle.answer_numbers.specs.SheetBytes.{ChoiceIs, ChoiceRefused}
use Rattle.answer_numbers.specs.SheetRead.{choice_reads}
use Rattle.answer_numbers.specs.RefusalNumbers.{number_low}
use Rattle.answer_numbers.specs.CallLimits.{Limits, NoGreater}
use Rattle.answer_numbers.specs.Classes.{class_total}
use Rattle.answer_numbers.specs.Outcome.{reported, refusal, Outcome}
use Rattle.answer_numbers.specs.Promise.{starts_of}
use Rattle.rounds_theorem.specs.LimitLaws.{beside, outcomes_beside, one_choice}
use Rattle.answer_numbers.specs.AnswerNumbers.{outcome_number}
use Rattle.answer_numbers.proofs.AnswerNumberLaws.{answered_handed, refuses_above}
use Rattle.answer_numbers.specs.HandedLaws.{handed_beside}
use Rattle.after_rounds.specs.AfterRounds as spec
use Rattle.after_rounds.specs.AfterRounds.{SAME, DIFF, OPEN, Afters, after_length, compare_rounds_with}
use Rattle.after_rounds.specs.AfterRoundsRead.{verdict_returned, afters_returned}
use Rattle.after_rounds.specs.AfterRoundsPromise.{after_for, RefusesAfter}
use Rattle.after_rounds.specs.declared.Reached.{Reached}
use Rattle.rounds_theorem.specs.ComparedRounds.{ComparedRounds}
use Rattle.rounds_theorem.specs.AfterTheorem.{after_decides, after_refuses, after_gives}
use Rattle.rounds_theorem.specs.TwoLimits.{after_same}
use Rattle.rounds_numbers.specs.RoundsNumbers.{verdict_number, verdict_code, afters_numbers, HandedRounds, rounds_numbers}

verdict_is : (v : spec.Verdict) → verdict_code (verdict_returned v) ≡ verdict_number v
verdict_is SAME = refl
verdict_is DIFF = refl
verdict_is OPEN = refl

number_is : (o : Afters) → outcome_number (afters_returned o) ≡ outcome_number o
number_is (reported a) = refl
number_is (refusal number place) = refl

numbers_are : (o : Afters) → rounds_numbers (afters_returned o) ≡ afters_numbers o
numbers_are (reported a) =
    ap (λ (k : ℕ). k ∷ class_total a.classes ∷ length a.members ∷ after_length a ∷ 0 ∷ []) (verdict_is a.verdict)
numbers_are (refusal number place) = refl

-- the numbers of either answer
pub after_numbers : {r : Outcome Reached} {x : Reached} {k : ℕ} → r ≡ reported x → k ≡ verdict_code x.verdict
    → ◌≡◌ {A = List ℕ} (k ∷ x.classes ∷ x.members ∷ x.length ∷ 0 ∷ []) (rounds_numbers r)
after_numbers {x = x} e h = ap (λ (j : ℕ). j ∷ x.classes ∷ x.members ∷ x.length ∷ 0 ∷ []) h ∙ ap rounds_numbers (sym e)

pub refused_numbers : {r : Outcome Reached} {number place : ℕ} → r ≡ refusal number place
    → ◌≡◌ {A = List ℕ} (0 ∷ 0 ∷ 0 ∷ 0 ∷ place ∷ []) (rounds_numbers r)
refused_numbers e = ap rounds_numbers (sym e)

-- what the call left, with the numbers of its answer
pub rounds_handed : {o : Afters} {v before w after : List ℕ} {r : Outcome Reached} {number : ℕ} {numbers : List ℕ} → ComparedRounds o v before w after r
    → number ≡ outcome_number r → numbers ≡ rounds_numbers r → HandedRounds o v before w after numbers number
rounds_handed {o} c n ns = answered_handed outcome_number rounds_numbers c n ns (number_is o) (numbers_are o)

-- no refusal has the number 0
pub rounds_above : (l : Limits) (bytes : List ℕ) (left right k work answer : ℕ) {number place : ℕ}
    → RefusesAfter l bytes left right k work answer number place → 1 ≤ number
rounds_above l bytes left right k work answer =
    refuses_above (λ n p x. (number_low bytes left right n p ((choice_reads bytes left right).is_refused n p x)).above)

-- what a caller in C gets of the call within lower limits is what the call within higher ones hands out, or 21
pub rounds_handed_lower : (l h : Limits) → NoGreater l h → (bytes : List ℕ) (left right k : ℕ) {v before w after numbers : List ℕ} {number : ℕ}
    → HandedRounds (compare_rounds_with l bytes left right k (length v) (length before)) v before w after numbers number
    → HandedRounds (compare_rounds_with h bytes left right k (length v) (length before)) v before w after numbers number ⊎ (number ≡ large_set)
rounds_handed_lower l h le bytes left right k {v} {before} =
    handed_beside
    (outcomes_beside (compare_rounds_with l bytes left right k (length v) (length before)) (compare_rounds_with h bytes left right k (length v) (length before))
    (after_refuses l bytes left right k (length v) (length before)) (after_gives l bytes left right k (length v) (length before))
    (after_refuses h bytes left right k (length v) (length before)) (after_gives h bytes left right k (length v) (length before))
    (beside (ChoiceIs bytes left right) (ChoiceRefused bytes left right) (λ sheet. starts_of sheet left right) (λ i sheet. after_for i sheet left right k)
    after_length (one_choice bytes left right) (after_same left right k) l h le (after_decides l bytes left right k (length v) (length before))))
