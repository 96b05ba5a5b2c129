-- The labels of an ask, read off a slice that begins with a table of closures.
use Rattle.std.specs.Prelude.{◌≡◌, Bool, not, ◌&&◌, ℕ, ◌+◌, ◌-◌, ◌/◌, ◌^◌, ◌≤◌, ◌<◌, length, get_or, take, drop}
use mathlib.Core.List.{List, Memᴰ}
use Rattle.std.specs.Int.Bits.{bit_or}
use Rattle.move_laws.specs.Lists.{any, Distinct}
use Rattle.closure_table.specs.Stores.{Rule, conclusions, includes}
use Rattle.move_laws.specs.Sheet.{Sheet}
use Rattle.move_laws.specs.Moves.{labels}
use Rattle.closure_table.specs.ClosureTable.{Closures}
use Rattle.label_tests.specs.LabelTests.{passes_by}
use Rattle.closure_table.specs.SheetLimits.{max_facts}

-- the slice begins with the closures of every set of so many facts, under some rules about them
pub record TableOf (facts : ℕ) (w : List ℕ) : Type 0 where
  pub rules : List Rule
  pub closures : Closures rules 0 (2 ^ facts) w
  pub fit : conclusions rules < 2 ^ facts

-- the sets found are the labels of an ask of c at store d, on every sheet with this table
pub record LabelsAre (w : List ℕ) (facts d c : ℕ) (found : List ℕ) : Type 0 where
  pub are : (sheet : Sheet) → sheet.facts ≡ facts → Closures sheet.rules 0 (2 ^ facts) w → conclusions sheet.rules < 2 ^ facts
      → found ≡ labels sheet d c

-- a table of closures, a store d of its facts, and behind the table, from `at` on, room for labels and one number more
pub record LabelRoom (facts d at : ℕ) (w : List ℕ) : Type 0 where
  pub few : facts ≤ max_facts
  pub table : TableOf facts w
  pub store : d < 2 ^ facts
  pub behind : 2 ^ facts ≤ at
  pub room : at + 2 ^ facts / 2 + 2 ≤ length w

-- the numbers of w from `first` on, before `end`
abbrev pub part : List ℕ → ℕ → ℕ → List ℕ
part w first end = take (end - first) (drop first w)

-- v passes, and no label found before is inside the closure of what v has outside d
abbrev pub is_next : List ℕ → ℕ → ℕ → List ℕ → ℕ → Bool
is_next w d c found v = passes_by w d c v && not (any (λ b. includes (get_or w (v - d) 0) b) found)

-- the labels of an ask of c at d whose union with d is below k, each once
pub record Found (sheet : Sheet) (d c k : ℕ) (found : List ℕ) : Type 0 where
  pub only : (a : ℕ) → Memᴰ a found → Memᴰ a (labels sheet d c) × (bit_or d a < k)
  pub all : (a : ℕ) → Memᴰ a (labels sheet d c) → bit_or d a < k → Memᴰ a found
  pub distinct : Distinct found

-- on every sheet with this table
pub record FoundBelow (w : List ℕ) (facts d c k : ℕ) (found : List ℕ) : Type 0 where
  pub are : (sheet : Sheet) → sheet.facts ≡ facts → Closures sheet.rules 0 (2 ^ facts) w → conclusions sheet.rules < 2 ^ facts
      → Found sheet d c k found
