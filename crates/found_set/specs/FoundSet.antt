-- What finding the set of a comparison asks and promises.
use Rattle.std.specs.Prelude.{◌≡◌, true, List, ℕ, ◌≤◌, ◌<◌, get_or, Option, Some, None}
use Rattle.set_order.specs.Frames.{SameOutside}
use Rattle.sheet_types.specs.Sheet as spec
use Rattle.sheet_types.specs.WellFormed.{OfSheet}
use Rattle.seed_members.specs.CallLimits.{Limits}
use Rattle.seed_members.specs.Set.{explored, fits}
use Rattle.seed_members.specs.Promise.{PassesLimit}
use Rattle.sheet_types.specs.declared.Configuration.{Configuration}
use Rattle.sheet_types.specs.declared.Sheet.{Sheet}
use Rattle.sheet_types.specs.HeldSheet.{configuration, no_configuration, sheet_of}
use Rattle.seed_members.specs.SetLayout.{SetHeld}
use Rattle.collected_moves.specs.declared.Caps.{Caps}
use Rattle.exploration.specs.declared.Plan.{Plan}
use Rattle.found_set.specs.declared.SetSize.{SetSize}
use Rattle.collected_moves.specs.WorkLayout.{work_end}
use Rattle.sheet_types.specs.SheetLimits.{max_starts}

-- the limits that the caps are
abbrev pub limits_of : Caps → Limits
limits_of caps = record { members = caps.members; threads = caps.threads; moves = caps.moves }

-- how a sheet is explored
abbrev pub plan_of : Sheet → Caps → Plan
plan_of sheet caps = record { facts = sheet.facts; nodes = sheet.node_count; caps = caps }

-- the first k seeds are configurations of the sheet
pub record SeedsFit (sheet : Sheet) (seeds : List Configuration) (k : ℕ) : Type 0 where
  pub few : k ≤ max_starts
  pub of_sheet : (i : ℕ) → i < k → OfSheet (sheet_of sheet) (configuration (get_or seeds i no_configuration))
  pub threads : (i : ℕ) → i < k → (get_or seeds i no_configuration).count ≤ 8

-- ---- the set
-- the set that grows from the seeds passes no limit, and stands in the slice whole and in order
pub record SetWhole (sheet : spec.Sheet) (l : Limits) (seeds : List spec.Configuration) (v w : List ℕ) (n m : ℕ) : Type 0 where
  pub fit : fits sheet l (explored sheet l seeds) ≡ true
  pub held : SetHeld sheet (explored sheet l seeds) w n m
  pub outside : SameOutside 0 work_end v w

-- it passes a limit
pub record SetPasses (sheet : spec.Sheet) (l : Limits) (seeds : List spec.Configuration) (v w : List ℕ) : Type 0 where
  pub passes : PassesLimit sheet l seeds
  pub outside : SameOutside 0 work_end v w

-- by the answer
abbrev pub SetFound : spec.Sheet → Limits → List spec.Configuration → List ℕ → List ℕ → Option SetSize → Type 0
SetFound sheet l seeds v w (Some size) = SetWhole sheet l seeds v w size.members size.moves
SetFound sheet l seeds v w None = SetPasses sheet l seeds v w
