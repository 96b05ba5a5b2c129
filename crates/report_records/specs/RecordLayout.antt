-- One member and one step in the work slice, and the bytes that document 01 has for them.
use Rattle.std.specs.Prelude.{List, [], ◌∷◌, ◌++◌, ℕ, ◌+◌, ◌*◌, ◌/◌, ◌%◌, get_or}
use Rattle.packing.specs.SheetBytes.{word_bytes}
use Rattle.work_layout.specs.Report.{member_bytes}
use Rattle.packing.specs.Packing.{Packed}
use Rattle.work_layout.specs.SetLayout.{member_at}
use Rattle.work_layout.specs.WorkLayout.{members_at, steps_at}
use Rattle.work_layout.specs.ClassLayout.{class_in}

-- ---- a member
-- the numbers of the member at place i stand for a configuration
abbrev pub PackedAt : List ℕ → ℕ → Type 0
PackedAt w i = Packed (get_or w (members_at + 3 * i) 0) (get_or w (members_at + 3 * i + 1) 0) (get_or w (members_at + 3 * i + 2) 0)

-- the bytes of the member at place i: store, thread count, threads, class
abbrev pub member_bytes_at : List ℕ → ℕ → List ℕ
member_bytes_at w i = member_bytes (member_at w i) (class_in w i)

-- ---- a step of the trail
abbrev pub side_in : List ℕ → ℕ → ℕ
side_in w i = get_or w (steps_at + 3 * i) 0

abbrev pub label_in : List ℕ → ℕ → ℕ
label_in w i = get_or w (steps_at + 3 * i + 1) 0 / 65536

abbrev pub target_in : List ℕ → ℕ → ℕ
target_in w i = get_or w (steps_at + 3 * i + 1) 0 % 65536

abbrev pub reply_in : List ℕ → ℕ → ℕ
reply_in w i = get_or w (steps_at + 3 * i + 2) 0

-- the bytes of step i: side, label, mover's target, reply's target
abbrev pub step_bytes_at : List ℕ → ℕ → List ℕ
step_bytes_at w i = (side_in w i ∷ []) ++ word_bytes (label_in w i) ++ word_bytes (target_in w i) ++ word_bytes (reply_in w i)
