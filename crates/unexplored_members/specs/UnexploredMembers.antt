-- Which members are explored, by the spans that stand in the work slice.
use Rattle.std.specs.Prelude.{◌≡◌, List, ℕ, ◌+◌, ◌*◌, ◌-◌, ◌<◌, get_or}
use Rattle.collected_moves.specs.PlacesPassed.{FirstPlace}
use Rattle.member_table.specs.MemberTable.{id_in}
use Rattle.collected_moves.specs.CollectedMoves.{member_part}
use Rattle.work_layout.specs.WorkLayout.{spans_at}

-- the number that is stored for a member's moves
abbrev pub span_of : ℕ → ℕ → ℕ
span_of first end = first * 65536 + (end - first) + 1

-- a member is explored: its span is stored
abbrev pub IsExplored : List ℕ → ℕ → Type 0
IsExplored w id = 0 < get_or w (spans_at + id) 0

-- the lowest place from `low` on whose member is unexplored; n where there is none
abbrev pub NextPlace : List ℕ → ℕ → ℕ → ℕ → Type 0
NextPlace w low n j =
    FirstPlace (λ i. IsExplored w (id_in (member_part w) i)) (λ i. get_or w (spans_at + id_in (member_part w) i) 0 ≡ 0) low n j
