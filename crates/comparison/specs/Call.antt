-- The comparing call, from sheet bytes, two start numbers and the lengths of both slices to the report or the refusal, in
-- document 01's order: the sheet's refusals, 14, then 23, 21, 22.
use Rattle.std.specs.Prelude.{List, [], ◌∷◌, ℕ}
use Rattle.moves.specs.Sheet.{Configuration, Sheet, start}
use Rattle.sheet_reading.specs.Reading.{Reading, read_choice}
use Rattle.comparison.specs.CallLimits.{Limits, limits, desk_limits}
use Rattle.comparison.specs.Report.{Report, Compares, report_on, report_bytes}
use Rattle.comparison.specs.Outcome.{written_after}
use Rattle.comparison.specs.Frame.{with_room, with_set, with_work, with_sheet}

-- 22: the answer slice is shorter than the report
abbrev pub in_room : ℕ → Report → Compares
in_room = with_room report_bytes

-- the report on two configurations of a sheet
abbrev pub compare_starts : Limits → Sheet → Configuration → Configuration → ℕ → Compares
compare_starts l sheet p q answer = with_set l sheet (p ∷ q ∷ []) (λ set. in_room answer (report_on sheet set p q))

abbrev pub compare_sheet : Limits → Sheet → Configuration → Configuration → ℕ → ℕ → Compares
compare_sheet l sheet p q work answer = with_work work (compare_starts l sheet p q answer)

abbrev pub after_reading : Limits → ℕ → ℕ → ℕ → ℕ → Reading Sheet → Compares
after_reading l left right work answer r =
    with_sheet r (λ sheet. compare_sheet l sheet (start sheet left) (start sheet right) work answer)

-- the call with limits that are given
unfoldable pub compare_with : Limits → List ℕ → ℕ → ℕ → ℕ → ℕ → Compares
compare_with l bytes left right work answer = after_reading l left right work answer (read_choice bytes left right)

-- document 01's call
abbrev pub compare : List ℕ → ℕ → ℕ → ℕ → ℕ → Compares
compare = compare_with limits

-- the desk's call (document 02, card 3): the same within the desk's limits
abbrev pub compare_desk : List ℕ → ℕ → ℕ → ℕ → ℕ → Compares
compare_desk = compare_with desk_limits

-- the answer slice after the call
abbrev pub answer_after : Compares → List ℕ → List ℕ
answer_after = written_after report_bytes
