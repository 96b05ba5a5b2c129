-- Rows for the numbers that a caller in C gets, as include/hofadiju.h has them: 0 is SAME and 1 is DIFF, then round, left, right, length,
-- place.
use Rattle.std.specs.Prelude.{◌≡◌, refl, List, [], ◌∷◌, ℕ}
use Rattle.answers.specs.Report.{Verdict, SAME, DIFF, Compares}
use Rattle.answers.specs.Outcome.{reported, refusal}
use Rattle.answer_numbers.specs.AnswerNumbers.{outcome_number, outcome_numbers}

-- a report of four bytes, without members and steps
abbrev bare : Verdict → Compares
bare v = reported (record { verdict = v; round = 2; left_place = 3; right_place = 5; members = []; classes = []; steps = [] })

-- the number that is returned, and the six after it
abbrev handed : Compares → List ℕ
handed o = outcome_number o ∷ outcome_numbers o

pub known_numbers : (handed (bare SAME) ≡ (0 ∷ 0 ∷ 2 ∷ 3 ∷ 5 ∷ 4 ∷ 0 ∷ []))
    × (handed (bare DIFF) ≡ (0 ∷ 1 ∷ 2 ∷ 3 ∷ 5 ∷ 4 ∷ 0 ∷ []))
    × (handed (refusal 5 14) ≡ (5 ∷ 0 ∷ 0 ∷ 0 ∷ 0 ∷ 0 ∷ 14 ∷ []))
known_numbers = (refl, refl, refl)
