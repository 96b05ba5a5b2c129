-- What a call has once its set was asked for: the set, whole and in order in the work slice, or a refusal.
use Rattle.std.specs.Prelude.{◌≡◌, Bool, List, ℕ, ◌≤◌, ◌<◌, length, Result, Ok, Err}
use Rattle.sheet_types.specs.SheetLimits.{max_starts, max_threads}
use Rattle.sheet_types.specs.Refusals.{large_set, short_work}
use Rattle.sheet_types.specs.Sheet.{Configuration, Sheet, start}
use Rattle.sheet_types.specs.Reading.{Reading, got, refused, read_sheet, read_choice}
use Rattle.work_layout.specs.CallLimits.{Limits}
use Rattle.work_layout.specs.Outcome.{cleared}
use Rattle.work_layout.specs.Promise.{PassesLimit, starts_of}
use Rattle.work_layout.specs.WorkLayout.{work_end}
use Rattle.sheet_types.specs.HeldSheet.{configuration, starts_in}
use Rattle.sheet_reader.specs.StartsFound.{FewThreads}
use Rattle.found_set.specs.FoundSet.{SetWhole}
use Rattle.call_seeds.specs.Choice.{seeds_from}
use Rattle.refusals.specs.Numbers.{number}
use Rattle.refusals.specs.declared.Refused.{Refused}
use Rattle.found_set.specs.declared.SetSize.{SetSize}
use Rattle.call_frame.specs.declared.Started.{Started}
use Rattle.call_frame.specs.declared.AllStarted.{AllStarted}

-- The work slice v, which is long enough, became w: the set of the seeds passes no limit and stands there whole.
pub record BegunSet (l : Limits) (sheet : Sheet) (seeds : List Configuration) (v w : List ℕ) (n m : ℕ) : Type 0 where
  pub long : work_end ≤ length v
  pub whole : SetWhole sheet l seeds v w n m

-- Refused by the state: the work slice is too short, and nothing changed; or the set itself passes a limit, and it is cleared.
pub data BegunRefused (l : Limits) (sheet : Sheet) (seeds : List Configuration) (v w : List ℕ) : ℕ → ℕ → Type 0 where
  too_short : length v < work_end → w ≡ v → BegunRefused l sheet seeds v w short_work 0
  too_large : work_end ≤ length v → PassesLimit sheet l seeds → w ≡ cleared v → BegunRefused l sheet seeds v w large_set 0

-- by the answer
abbrev pub BegunAs : Limits → Sheet → List Configuration → List ℕ → List ℕ → Result SetSize Refused → Type 0
BegunAs l sheet seeds v w (Ok size) = BegunSet l sheet seeds v w size.members size.moves
BegunAs l sheet seeds v w (Err e) = BegunRefused l sheet seeds v w (number e.refusal) e.place

-- A refusal as reading gives it, with nothing changed, or what is had of the sheet that was read and its seeds.
pub data SetBegun (m : Reading Sheet) (l : Limits) (seeds : Sheet → List Configuration) (v w : List ℕ) : Result SetSize Refused → Type 0 where
  by_sheet : {e : Refused} → m ≡ refused (number e.refusal) e.place → w ≡ v → SetBegun m l seeds v w (Err e)
  by_set : {r : Result SetSize Refused} (sheet : Sheet) (end : ℕ) → m ≡ got sheet end → BegunAs l sheet (seeds sheet) v w r → SetBegun m l seeds v w r

-- ---- with the seeds beside it
-- the first of the configurations are these, in their order, and have few threads
pub record StartsListed (ps : List Configuration) (r : AllStarted) : Type 0 where
  pub listed : starts_in r.starts r.count ≡ ps
  pub held : r.count ≤ length r.starts
  pub few : r.count ≤ max_starts
  pub threads : FewThreads r.starts r.count

pub record SeedsBegun (l : Limits) (sheet : Sheet) (ps : List Configuration) (v w : List ℕ) (r : AllStarted) : Type 0 where
  pub begun : BegunAs l sheet ps v w r.begun
  pub starts : StartsListed ps r

-- of a sheet that was read, two starts being chosen; beside a refusal of the sheet or the choice the starts are free
pub record ReadBegun (l : Limits) (bytes : List ℕ) (left right : ℕ) (all : Bool) (v w : List ℕ) (r : AllStarted) : Type 0 where
  pub begun : SetBegun (read_choice bytes left right) l (seeds_from all left right) v w r.begun
  pub starts : (sheet : Sheet) (end : ℕ) → read_choice bytes left right ≡ got sheet end → StartsListed (seeds_from all left right sheet) r

-- ---- two starts
-- what is had of them
abbrev pub ChoiceSet : Limits → List ℕ → ℕ → ℕ → List ℕ → List ℕ → Result SetSize Refused → Type 0
ChoiceSet l bytes left right = SetBegun (read_choice bytes left right) l (λ sheet. starts_of sheet left right)

-- the two configurations are these starts of the sheet, and have few threads
pub record StartsAre (sheet : Sheet) (left right : ℕ) (r : Started) : Type 0 where
  pub left_is : configuration r.left ≡ start sheet left
  pub right_is : configuration r.right ≡ start sheet right
  pub left_few : r.left.count ≤ max_threads
  pub right_few : r.right.count ≤ max_threads

pub record PairBegun (l : Limits) (bytes : List ℕ) (left right : ℕ) (v w : List ℕ) (r : Started) : Type 0 where
  pub begun : ChoiceSet l bytes left right v w r.begun
  pub starts : (sheet : Sheet) (end : ℕ) → read_choice bytes left right ≡ got sheet end → StartsAre sheet left right r

-- ---- all starts; beside a refusal of the sheet the starts are free
pub record AllBegun (l : Limits) (bytes v w : List ℕ) (r : AllStarted) : Type 0 where
  pub begun : SetBegun (read_sheet bytes) l (λ sheet. sheet.starts) v w r.begun
  pub starts : (sheet : Sheet) (end : ℕ) → read_sheet bytes ≡ got sheet end → StartsListed sheet.starts r
