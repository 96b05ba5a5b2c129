-- What marking a node gives.
use Rattle.std.specs.Prelude.{◌≡◌, ◌⊎◌, true, false, ℕ, ◌+◌}
use mathlib.Core.List.{List, Memᴰ}
use Rattle.packing.specs.Frames.{SameOutside}
use Rattle.walk_state.specs.NodeMoves.{NodeBeside}
use Rattle.member_table.specs.MemberTable.{part_at, Kept}
use Rattle.walk_state.specs.WalkState.{marks_of}
use Rattle.node_marks.specs.declared.Marked.{Marked}
use Rattle.work_layout.specs.WorkLayout.{table_length, marks_at}

-- p was looked for among the n marks in v: the marks in w are those, some of them or none, and perhaps p; p is passed over only
-- where it was marked
pub record SeenAs (v : List ℕ) (n : ℕ) (p : NodeBeside) (w : List ℕ) (r : Marked) : Type 0 where
  pub kept : Kept (part_at w marks_at) r.marks
  pub only : (x : NodeBeside) → Memᴰ x (marks_of w r.marks) → (x ≡ p) ⊎ Memᴰ x (marks_of v n)
  pub known : r.fresh ≡ false → Memᴰ p (marks_of v n)
  pub outside : SameOutside marks_at (marks_at + table_length) v w

-- p was marked, too, and is passed over exactly where it was marked before
pub record MarkedAs (v : List ℕ) (n : ℕ) (p : NodeBeside) (w : List ℕ) (r : Marked) : Type 0 where
  pub seen : SeenAs v n p w r
  pub itself : Memᴰ p (marks_of w r.marks)
  pub new : r.fresh ≡ true → Memᴰ p (marks_of v n) → ⊥
