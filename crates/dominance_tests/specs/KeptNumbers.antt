-- The number that is kept for a move: the dominating move's place in its upper half, the member that shows it in its lower half.
use Rattle.std.specs.Prelude.{◌≡◌, ℕ, ◌%◌, ◌≤◌}
use Rattle.work_layout.specs.WorkLayout.{member_room}

-- its lower half is a place of the slice's classes, or what stands for none
abbrev pub KeptFits : ℕ → Type 0
KeptFits kept = (kept % 65536 ≡ 65535 → ⊥) → kept % 65536 ≤ member_room
