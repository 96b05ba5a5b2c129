-- The numbers of the library's answer are those of the outcome; no refusal has the number 0.
use Rattle.std.specs.Prelude.{◌≡◌, refl, List, [], ◌∷◌, ℕ, ◌≤◌, length}
use Rattle.std.proofs.Common.{sym, ap}
use Rattle.answer_numbers.specs.SheetRead.{sheet_reads}
use Rattle.all_call.specs.RefusalNumbers.{sheet_number_low}
use Rattle.answer_numbers.specs.CallLimits.{Limits}
use Rattle.answer_numbers.specs.Outcome.{reported, refusal, Outcome}
use Rattle.answer_numbers.specs.AnswerNumbers.{outcome_number}
use Rattle.answer_numbers.proofs.AnswerNumberLaws.{answered_handed, refuses_above}
use Rattle.all_starts.specs.Grouping.{Groups}
use Rattle.all_starts.specs.GroupingRead.{groups_returned}
use Rattle.all_starts.specs.GroupingPromise.{RefusesAll}
use Rattle.all_starts.specs.declared.Grouped.{Grouped}
use Rattle.all_call.specs.ComparedAll.{ComparedAll}
use Rattle.all_numbers.specs.AllNumbers.{groups_numbers, HandedAll, all_numbers}

number_is : (o : Groups) → outcome_number (groups_returned o) ≡ outcome_number o
number_is (reported g) = refl
number_is (refusal number place) = refl

numbers_are : (o : Groups) → all_numbers (groups_returned o) ≡ groups_numbers o
numbers_are (reported g) = refl
numbers_are (refusal number place) = refl

-- the numbers of either answer
pub classes_numbers : {r : Outcome Grouped} {x : Grouped} → r ≡ reported x → ◌≡◌ {A = List ℕ} (x.round ∷ x.length ∷ 0 ∷ []) (all_numbers r)
classes_numbers e = ap all_numbers (sym e)

pub refused_numbers : {r : Outcome Grouped} {number place : ℕ} → r ≡ refusal number place → ◌≡◌ {A = List ℕ} (0 ∷ 0 ∷ place ∷ []) (all_numbers r)
refused_numbers e = ap all_numbers (sym e)

-- what the call left, with the numbers of its answer
pub all_handed : {o : Groups} {v before w after : List ℕ} {r : Outcome Grouped} {number : ℕ} {numbers : List ℕ} → ComparedAll o v before w after r
    → number ≡ outcome_number r → numbers ≡ all_numbers r → HandedAll o v before w after numbers number
all_handed {o} c n ns = answered_handed outcome_number all_numbers c n ns (number_is o) (numbers_are o)

-- no refusal has the number 0
pub all_above : (l : Limits) (bytes : List ℕ) (work answer : ℕ) {number place : ℕ} → RefusesAll l bytes work answer number place → 1 ≤ number
all_above l bytes work answer = refuses_above (λ n p x. (sheet_number_low bytes n p ((sheet_reads bytes).is_refused n p x)).above)
