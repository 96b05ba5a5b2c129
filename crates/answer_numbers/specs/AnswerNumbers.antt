-- What a caller in C gets of a call's outcome: a number that is returned, and the numbers of the result; for the comparing call six.
use Rattle.std.specs.Prelude.{◌≡◌, Bool, true, false, List, [], ◌∷◌, ℕ}
use Rattle.answers.specs.Report.{Verdict, SAME, DIFF, report_bytes, report_length, Compares}
use Rattle.answers.specs.Outcome.{Outcome, reported, refusal, written_after, work_after}
use Rattle.answers.specs.declared.Reported.{Reported}

-- 0 for what a call gives, else the refusal's number, which is never 0 (`refusal_above`)
abbrev pub outcome_number : {A : Type 0} → Outcome A → ℕ
outcome_number (reported a) = 0
outcome_number (refusal number place) = number

-- A call had this outcome: the number that was returned, the result's numbers, and both slices, of which v became w and `before` became
-- `after`.
pub record HandedBy {A : Type 0} (written : A → List ℕ) (numbered : Outcome A → List ℕ) (o : Outcome A) (v before w after numbers : List ℕ) (number : ℕ) : Type 0 where
  pub returns : number ≡ outcome_number o
  pub result : numbers ≡ numbered o
  pub bytes : after ≡ written_after written o before
  pub works : w ≡ work_after o v

abbrev pub verdict_number : Verdict → ℕ
verdict_number SAME = 0
verdict_number DIFF = 1

-- verdict, round, the places of both starts, the report's length, the refusal's place; 0 for what does not apply
abbrev pub outcome_numbers : Compares → List ℕ
outcome_numbers (reported r) =
    verdict_number r.verdict ∷ r.round ∷ r.left_place ∷ r.right_place ∷ report_length r ∷ 0 ∷ []
outcome_numbers (refusal number place) = 0 ∷ 0 ∷ 0 ∷ 0 ∷ 0 ∷ place ∷ []

-- the comparing call had this outcome
abbrev pub Handed : Compares → List ℕ → List ℕ → List ℕ → List ℕ → List ℕ → ℕ → Type 0
Handed = HandedBy report_bytes outcome_numbers

-- ---- the same of the library's own answer
abbrev pub same_number_lem : Bool → ℕ
same_number_lem true = 0
same_number_lem false = 1

abbrev pub answer_numbers : Outcome Reported → List ℕ
answer_numbers (reported x) = same_number_lem x.same ∷ x.round ∷ x.left ∷ x.right ∷ x.length ∷ 0 ∷ []
answer_numbers (refusal number place) = 0 ∷ 0 ∷ 0 ∷ 0 ∷ 0 ∷ place ∷ []
