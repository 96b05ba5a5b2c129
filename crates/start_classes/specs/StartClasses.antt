-- The classes of starts, which are members of the set that stands in the work slice, and the bytes that document 02, card 1, has for them.
use mathlib.Core.List.{List, Memᴰ}
use Rattle.std.specs.Prelude.{ℕ, ◌≤◌, ◌<◌, length, get_or}
use Rattle.packing.specs.Lists.{concat_map}
use Rattle.packing.specs.Tabulate.{tabulate}
use Rattle.sheet_types.specs.SheetLimits.{max_starts, max_threads}
use Rattle.sheet_types.specs.Sheet as spec
use Rattle.packing.specs.SheetBytes.{word_bytes}
use Rattle.work_layout.specs.Classes.{class_of}
use Rattle.sheet_types.specs.declared.Configuration.{Configuration}
use Rattle.sheet_types.specs.HeldSheet.{configuration, no_configuration}
use Rattle.work_layout.specs.WorkLayout.{work_end, member_room}
use Rattle.work_layout.specs.SetLayout.{set_in}
use Rattle.work_layout.specs.ClassLayout.{classes_in}
use Rattle.dominators.specs.FoundMembers.{Ordered}

-- the class that a member of the slice's set has there
abbrev pub class_held : List ℕ → ℕ → spec.Configuration → ℕ
class_held w n p = class_of (set_in w n) (classes_in w n) p

-- the bytes of start i, and of the first k starts
abbrev pub start_bytes_at : List ℕ → ℕ → List Configuration → ℕ → List ℕ
start_bytes_at w n starts i = word_bytes (class_held w n (configuration (get_or starts i no_configuration)))

abbrev pub starts_part : List ℕ → ℕ → List Configuration → ℕ → List ℕ
starts_part w n starts k = concat_map (start_bytes_at w n starts) (tabulate (λ i. i) k)

-- n members stand in the slice in their order
pub record SetStands (w : List ℕ) (n : ℕ) : Type 0 where
  pub long : work_end ≤ length w
  pub few : n ≤ member_room
  pub ordered : Ordered w n

-- p is one of them
pub record MemberHeld (w : List ℕ) (n : ℕ) (p : Configuration) : Type 0 where
  pub set : SetStands w n
  pub threads : p.count ≤ max_threads
  pub there : Memᴰ (configuration p) (set_in w n)

-- each of the first k starts is one of them
pub record StartsHeld (w : List ℕ) (n : ℕ) (starts : List Configuration) (k : ℕ) : Type 0 where
  pub set : SetStands w n
  pub count : k ≤ max_starts
  pub threads : (i : ℕ) → i < k → (get_or starts i no_configuration).count ≤ max_threads
  pub there : (i : ℕ) → i < k → Memᴰ (configuration (get_or starts i no_configuration)) (set_in w n)
