-- What the grouping over a set in the work slice returns and leaves in both slices.
use Rattle.report_bytes.specs.Outcome.{Outcome}
use Rattle.std.specs.Prelude.{◌≡◌, ℕ, ◌≤◌}
use mathlib.Core.List.{List, Memᴰ}
use Rattle.sheet_types.specs.SheetLimits.{max_starts}
use Rattle.sheet_types.specs.Sheet.{Configuration, Sheet}
use Rattle.sheet_types.specs.declared.Configuration as held
use Rattle.sheet_types.specs.HeldSheet.{starts_in}
use Rattle.start_reader.specs.StartsFound.{FewThreads}
use Rattle.class_rounds.specs.RoundAtHand.{SetReady}
use Rattle.report_bytes.specs.AnswerMade.{AnswerMade}
use Rattle.all_starts.specs.Grouping.{grouping_on, grouping_bytes}
use Rattle.all_starts.specs.GroupingRead.{groups_returned}
use Rattle.all_starts.specs.declared.Grouped.{Grouped}

-- A closed set in its order stands in the slice, and has all starts of the sheet.
pub record AllHeld (sheet : Sheet) (set : List Configuration) (w : List ℕ) (n m : ℕ) (starts : List held.Configuration) (k : ℕ) : Type 0 where
  pub ready : SetReady sheet set w n m
  pub listed : starts_in starts k ≡ sheet.starts
  pub there : (p : Configuration) → Memᴰ p sheet.starts → Memᴰ p set

-- some such set stands there, and no start has more threads than there is room for
pub record GroupingReady (w : List ℕ) (n m : ℕ) (starts : List held.Configuration) (k : ℕ) : Type 0 where
  pub sheet : Sheet
  pub set : List Configuration
  pub all : AllHeld sheet set w n m starts k
  pub count : k ≤ max_starts
  pub threads : FewThreads starts k

-- The work slice v became w, the answer slice `before` became `after`, and `answer` was returned: document 02's outcome, whatever closed
-- set with all starts of a sheet stands in v; nothing behind the work places is changed.
abbrev pub GroupingMade : List ℕ → List ℕ → ℕ → ℕ → List held.Configuration → ℕ → List ℕ → List ℕ → Outcome Grouped → Type 0
GroupingMade v before n m starts k w after answer =
    AnswerMade grouping_bytes groups_returned grouping_on (λ sheet set. AllHeld sheet set v n m starts k) v before w after answer
