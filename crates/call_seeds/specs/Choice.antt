-- A sheet that is held, two starts chosen on it, and the seeds that are made of them.
use Rattle.std.specs.Prelude.{◌≡◌, Bool, true, false, cond, List, ℕ, ◌≤◌, ◌<◌, length, get_or, set}
use Rattle.sheet_types.specs.SheetLimits.{max_starts}
use Rattle.sheet_types.specs.Sheet as spec
use Rattle.sheet_types.specs.WellFormed.{Admissible}
use Rattle.work_layout.specs.Promise.{starts_of}
use Rattle.sheet_types.specs.HeldSheet.{nodes_in, no_configuration, starts_in, sheet_of}
use Rattle.sheet_types.specs.NodeTable.{nodes_of}
use Rattle.sheet_types.specs.declared.Configuration.{Configuration}
use Rattle.sheet_types.specs.declared.Sheet.{Sheet}
use Rattle.sheet_reader.specs.NodeTables.{NodeTable}
use Rattle.sheet_reader.specs.StartsFound.{FewThreads}
use Rattle.found_set.specs.FoundSet.{SeedsFit}

-- A sheet is held, and its starts can be seeds.
pub record SheetReady (sheet : Sheet) : Type 0 where
  pub admissible : Admissible (sheet_of sheet)
  pub table : NodeTable (nodes_in (nodes_of sheet.table) sheet.node_count) sheet.table
  pub threads : FewThreads sheet.starts sheet.start_count
  pub few_starts : sheet.start_count ≤ max_starts

-- A sheet is held, with two starts of it chosen.
pub record ChoiceHeld (sheet : Sheet) (left right : ℕ) : Type 0 where
  pub ready : SheetReady sheet
  pub left_start : left < sheet.start_count
  pub right_start : right < sheet.start_count

-- the first two seeds are these starts
pub record Seeds (starts : List Configuration) (left right : ℕ) (seeds : List Configuration) : Type 0 where
  pub first : get_or seeds 0 no_configuration ≡ get_or starts left no_configuration
  pub second : get_or seeds 1 no_configuration ≡ get_or starts right no_configuration

-- ---- the seeds of a call: all starts of the sheet, or two chosen ones
abbrev pub seeds_from : Bool → ℕ → ℕ → spec.Sheet → List spec.Configuration
seeds_from true left right sheet = sheet.starts
seeds_from false left right sheet = starts_of sheet left right

-- as they are held, and how many there are
abbrev pub seeds_held : List Configuration → ℕ → ℕ → Bool → List Configuration
seeds_held starts left right all =
    cond all starts (set (set starts 0 (get_or starts left no_configuration)) 1 (get_or starts right no_configuration))

abbrev pub seed_count : ℕ → Bool → ℕ
seed_count count all = cond all count 2

-- the first k held are these configurations, and can be seeds
pub record SeedsAre (sheet : Sheet) (ps : List spec.Configuration) (seeds : List Configuration) (k : ℕ) : Type 0 where
  pub listed : starts_in seeds k ≡ ps
  pub held : k ≤ length seeds
  pub fit : SeedsFit sheet seeds k
