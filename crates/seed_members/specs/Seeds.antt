-- What entering the seeds of a set asks and promises.
use Rattle.std.specs.Prelude.{◌≡◌, ◌⊎◌, ℕ, ◌+◌, ◌≤◌, ◌<◌, length, get_or}
use mathlib.Core.List.{List, Memᴰ}
use Rattle.work_layout.specs.Frames.{SameOutside}
use Rattle.sheet_types.specs.Sheet as spec
use Rattle.work_layout.specs.Promise.{PassesLimit}
use Rattle.collected_moves.specs.declared.Caps.{Caps}
use Rattle.collected_moves.specs.declared.Running.{Running}
use Rattle.std.specs.Prelude.{Option, Some, None}
use Rattle.collected_moves.specs.CollectedMoves.{Collecting, EnteredOn, NoRoomFor, members_of}
use Rattle.set_growth.specs.SetGrowth.{Growth, Sound}
use Rattle.work_layout.specs.WorkLayout.{table_length, spans_at, moves_at, members_at, member_room, move_room}
use Rattle.sheet_types.specs.SheetLimits.{max_threads}

-- there is room for so many members, moves and threads of a member
abbrev pub CapsFit : Caps → Type 0
CapsFit caps = (caps.members ≤ member_room) × (caps.moves ≤ move_room) × (caps.threads ≤ max_threads)

-- no member is explored
pub record Cleared (v w : List ℕ) : Type 0 where
  pub none : (id : ℕ) → id < member_room → get_or w (spans_at + id) 0 ≡ 0
  pub outside : SameOutside spans_at moves_at v w

-- one seed was entered; it has no more threads than allowed
pub record SeedOn (v : List ℕ) (s : Running) (caps : Caps) (p : spec.Configuration) (w : List ℕ) (t : Running) : Type 0 where
  pub entered : EnteredOn v 0 s caps p w t
  pub few : length p.threads ≤ caps.threads

-- it has more threads than allowed, or there is no room for one member more
pub record SeedOver (v : List ℕ) (s : Running) (caps : Caps) (p : spec.Configuration) (w : List ℕ) : Type 0 where
  pub large : ((caps.threads < length p.threads) × (w ≡ v)) ⊎ NoRoomFor v s caps p w

-- by the answer
abbrev pub SeedEntered : List ℕ → Running → Caps → spec.Configuration → List ℕ → Option Running → Type 0
SeedEntered v s caps p w (Some t) = SeedOn v s caps p w t
SeedEntered v s caps p w None = SeedOver v s caps p w

-- these seeds are the members, and there are no moves
pub record SeededOn (v : List ℕ) (caps : Caps) (ps : List spec.Configuration) (w : List ℕ) (t : Running) : Type 0 where
  pub collecting : Collecting w 0 t caps
  pub no_moves : t.moves ≡ 0
  pub lowest : t.low ≡ 0
  pub only : (x : spec.Configuration) → Memᴰ x (members_of w t) → Memᴰ x ps
  pub all : (x : spec.Configuration) → Memᴰ x ps → Memᴰ x (members_of w t)
  pub few : (x : spec.Configuration) → Memᴰ x ps → length x.threads ≤ caps.threads
  pub inside : SameOutside members_at (members_at + table_length) v w

-- a cap is passed: then a set with these seeds passes a limit
pub record SeededOver (v : List ℕ) (caps : Caps) (ps : List spec.Configuration) (w : List ℕ) : Type 0 where
  pub passes : (g : Growth) → Sound g caps → ((p : spec.Configuration) → Memᴰ p ps → Memᴰ p g.seeds)
      → PassesLimit g.sheet g.limits g.seeds
  pub inside : SameOutside members_at (members_at + table_length) v w

-- by the answer
abbrev pub Seeded : List ℕ → Caps → List spec.Configuration → List ℕ → Option Running → Type 0
Seeded v caps ps w (Some t) = SeededOn v caps ps w t
Seeded v caps ps w None = SeededOver v caps ps w
