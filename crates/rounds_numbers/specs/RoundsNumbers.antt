-- What a caller in C gets of the call for so many rounds: a number that is returned, and five more. Rows for them, as include/hofadiju.h
-- has them: verdict, classes, members, length, place.
use Rattle.std.specs.Prelude.{◌≡◌, refl, List, [], ◌∷◌, ℕ, length}
use Rattle.answer_numbers.specs.Classes.{class_total}
use Rattle.answer_numbers.specs.Outcome.{reported, refusal, Outcome}
use Rattle.answer_numbers.specs.AnswerNumbers.{outcome_number, HandedBy}
use Rattle.after_rounds.specs.AfterRounds as spec
use Rattle.after_rounds.specs.AfterRounds.{SAME, DIFF, OPEN, Afters, after_bytes, after_length}
use Rattle.after_rounds.specs.declared.Verdict.{Verdict}
use Rattle.after_rounds.specs.declared.Verdict.TheVariants.{Same, Diff, Open}
use Rattle.after_rounds.specs.declared.Reached.{Reached}

abbrev pub verdict_number : spec.Verdict → ℕ
verdict_number SAME = 0
verdict_number DIFF = 1
verdict_number OPEN = 2

-- verdict, the number of classes, the set's size, the answer's length, the refusal's place; 0 for what does not apply
abbrev pub afters_numbers : Afters → List ℕ
afters_numbers (reported a) = verdict_number a.verdict ∷ class_total a.classes ∷ length a.members ∷ after_length a ∷ 0 ∷ []
afters_numbers (refusal number place) = 0 ∷ 0 ∷ 0 ∷ 0 ∷ place ∷ []

-- the call for so many rounds had this outcome
abbrev pub HandedRounds : Afters → List ℕ → List ℕ → List ℕ → List ℕ → List ℕ → ℕ → Type 0
HandedRounds = HandedBy after_bytes afters_numbers

-- ---- the same of the library's own answer
abbrev pub verdict_code : Verdict → ℕ
verdict_code Same = 0
verdict_code Diff = 1
verdict_code Open = 2

abbrev pub rounds_numbers : Outcome Reached → List ℕ
rounds_numbers (reported x) = verdict_code x.verdict ∷ x.classes ∷ x.members ∷ x.length ∷ 0 ∷ []
rounds_numbers (refusal number place) = 0 ∷ 0 ∷ 0 ∷ 0 ∷ place ∷ []

-- ---- rows: the number that is returned and the five after it, of an answer on three members in two classes, and of a refusal
abbrev handed : Afters → List ℕ
handed o = outcome_number o ∷ afters_numbers o

abbrev three : spec.Verdict → Afters
three v =
    reported (record {
      verdict = v;
      members = record { store = 0; threads = [] } ∷ record { store = 1; threads = [] } ∷ record { store = 1; threads = 1 ∷ [] } ∷ [];
      classes = 0 ∷ 1 ∷ 1 ∷ [];
    })

pub known_rounds_numbers : (handed (three SAME) ≡ (0 ∷ 0 ∷ 2 ∷ 3 ∷ 18 ∷ 0 ∷ [])) × (handed (three DIFF) ≡ (0 ∷ 1 ∷ 2 ∷ 3 ∷ 18 ∷ 0 ∷ []))
    × (handed (three OPEN) ≡ (0 ∷ 2 ∷ 2 ∷ 3 ∷ 18 ∷ 0 ∷ [])) × (handed (refusal 22 40) ≡ (22 ∷ 0 ∷ 0 ∷ 0 ∷ 0 ∷ 40 ∷ []))
known_rounds_numbers = (refl, refl, refl, refl)
