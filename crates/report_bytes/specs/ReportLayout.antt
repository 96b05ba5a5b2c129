-- A report in the work slice, before it is written: the members with the numbers of their classes, and the steps of the trail.
-- What bytes document 01 has for them.
use Rattle.std.specs.Prelude.{List, ◌++◌, ℕ}
use Rattle.work_layout.specs.Tabulate.{tabulate}
use Rattle.comparison_laws.specs.Lists.{concat_map}
use Rattle.comparison_laws.specs.SheetBytes.{word_bytes}
use Rattle.report_records.specs.RecordLayout.{member_bytes_at, step_bytes_at}

-- the count of members and the members
abbrev pub members_part : List ℕ → ℕ → List ℕ
members_part w n = word_bytes n ++ concat_map (member_bytes_at w) (tabulate (λ i. i) n)

-- the count of steps and the steps: the trail section
abbrev pub trail_part : List ℕ → ℕ → List ℕ
trail_part w k = word_bytes k ++ concat_map (step_bytes_at w) (tabulate (λ i. i) k)

-- all bytes of the report
abbrev pub held_bytes : List ℕ → ℕ → ℕ → List ℕ
held_bytes w n k = members_part w n ++ trail_part w k
