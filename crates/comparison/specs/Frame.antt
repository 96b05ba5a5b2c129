-- What every call has that works out a set: from reading to the set, and the room for what it writes. A call adds what it makes of the
-- set, and its bytes. Document 01's order of refusals: those of the sheet and the choice, 23, 21, 22.
use Rattle.std.specs.Prelude.{true, false, cond, List, ℕ, length, ltb}
use Rattle.moves.specs.Refusals.{large_set, short_answer, short_work}
use Rattle.moves.specs.Sheet.{Configuration, Sheet}
use Rattle.sheet_reading.specs.Reading.{Reading, got, refused}
use Rattle.comparison.specs.CallLimits.{Limits, work_length}
use Rattle.comparison.specs.Outcome.{Outcome, reported, refusal}
use Rattle.comparison.specs.Set.{explored, fits}

-- 22: the answer slice is shorter than the bytes that are to be written; the place is the length needed
abbrev pub with_room : {A : Type 0} → (A → List ℕ) → ℕ → A → Outcome A
with_room bytes answer a = let needed = length (bytes a) in cond (ltb answer needed) (refusal short_answer needed) (reported a)

-- 21: the set that grows from the seeds passes a limit; otherwise the call goes on with it
abbrev pub with_set : {A : Type 0} → Limits → Sheet → List Configuration → (List Configuration → Outcome A) → Outcome A
with_set l sheet seeds on =
    let set = explored sheet l seeds in elim (fits sheet l set) [ true ↦ on set | false ↦ refusal large_set 0 ]

-- 23: the work slice is too short
abbrev pub with_work : {A : Type 0} → ℕ → Outcome A → Outcome A
with_work work on = elim (ltb work work_length) [ true ↦ refusal short_work 0 | false ↦ on ]

-- a refusal by the sheet or the choice is handed up unaltered
abbrev pub with_sheet : {A : Type 0} → Reading Sheet → (Sheet → Outcome A) → Outcome A
with_sheet (got sheet end) on = on sheet
with_sheet (refused number place) on = refusal number place
