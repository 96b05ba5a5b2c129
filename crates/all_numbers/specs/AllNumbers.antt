-- What a caller in C gets of the call for all starts: a number that is returned, and three more. Rows for them, as include/hofadiju.h
-- has them: round, length, place.
use Rattle.std.specs.Prelude.{◌≡◌, refl, List, [], ◌∷◌, ℕ}
use Rattle.answer_numbers.specs.Outcome.{reported, refusal, Outcome}
use Rattle.answer_numbers.specs.AnswerNumbers.{outcome_number, HandedBy}
use Rattle.all_starts.specs.Grouping.{Groups, grouping_bytes, grouping_length}
use Rattle.all_starts.specs.declared.Grouped.{Grouped}

-- the result's round, the answer's length, the refusal's place; 0 for what does not apply
abbrev pub groups_numbers : Groups → List ℕ
groups_numbers (reported g) = g.round ∷ grouping_length g ∷ 0 ∷ []
groups_numbers (refusal number place) = 0 ∷ 0 ∷ place ∷ []

-- the call for all starts had this outcome
abbrev pub HandedAll : Groups → List ℕ → List ℕ → List ℕ → List ℕ → List ℕ → ℕ → Type 0
HandedAll = HandedBy grouping_bytes groups_numbers

-- ---- the same of the library's own answer
abbrev pub all_numbers : Outcome Grouped → List ℕ
all_numbers (reported x) = x.round ∷ x.length ∷ 0 ∷ []
all_numbers (refusal number place) = 0 ∷ 0 ∷ place ∷ []

-- ---- rows: the number that is returned and the three after it, of a grouping of six bytes with two starts, and of a refusal
abbrev handed : Groups → List ℕ
handed o = outcome_number o ∷ groups_numbers o

pub known_all_numbers : (handed (reported (record { round = 2; members = []; classes = []; start_classes = 0 ∷ 1 ∷ [] })) ≡ (0 ∷ 2 ∷ 6 ∷ 0 ∷ []))
    × (handed (refusal 22 40) ≡ (22 ∷ 0 ∷ 0 ∷ 40 ∷ []))
known_all_numbers = (refl, refl)
