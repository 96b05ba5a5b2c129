-- The shelf: the labels of asks at one store, kept for each asked set, in a slice behind the table of closures.
use Rattle.std.specs.Prelude.{◌≡◌, ◌⊎◌, List, ℕ, ◌+◌, ◌*◌, ◌-◌, ◌/◌, ◌^◌, ◌≤◌, ◌<◌, length, get_or, set}
use Rattle.ask_labels.specs.declared.Shelf.{Shelf}
use Rattle.ask_labels.specs.declared.Labelled.{Labelled}
use Rattle.work_layout.specs.Frames.{SameOutside}
use Rattle.label_search.specs.AskLabels.{TableOf, LabelsAre, part}
use Rattle.work_layout.specs.WorkLayout.{heads_at, lists_at, lists_end}
use Rattle.closure_table.specs.SheetLimits.{max_facts}

-- how many entries there are at most
abbrev pub max_sets : ℕ
max_sets = 64

-- the asked set of entry i, and where its labels begin and end
abbrev pub asked_of : List ℕ → ℕ → ℕ
asked_of w i = get_or w (heads_at + 3 * i) 0

abbrev pub first_of : List ℕ → ℕ → ℕ
first_of w i = get_or w (heads_at + 3 * i + 1) 0

abbrev pub end_of : List ℕ → ℕ → ℕ
end_of w i = get_or w (heads_at + 3 * i + 2) 0

-- the slice with entry i put in its place
abbrev pub put_entry : List ℕ → ℕ → ℕ → ℕ → ℕ → List ℕ
put_entry w i c first end = set (set (set w (heads_at + 3 * i) c) (heads_at + 3 * i + 1) first) (heads_at + 3 * i + 2) end

-- entry i has the labels of its asked set at store d, and they stand below `high`
pub record EntryAt (w : List ℕ) (facts d high i : ℕ) : Type 0 where
  pub low : lists_at ≤ first_of w i
  pub order : first_of w i ≤ end_of w i
  pub below : end_of w i ≤ high
  pub labels : LabelsAre w facts d (asked_of w i) (part w (first_of w i) (end_of w i))

-- each entry of the shelf has the labels of its asked set at store d
pub record Shelved (w : List ℕ) (facts d : ℕ) (shelf : Shelf) : Type 0 where
  pub few : shelf.sets ≤ max_sets
  pub room : lists_at + shelf.used ≤ lists_end
  pub entries : (i : ℕ) → i < shelf.sets → EntryAt w facts d (lists_at + shelf.used) i

-- the shelf with no entries
abbrev pub no_entries : Shelf
no_entries = record { sets = 0; used = 0 }

-- the shelf r is the other or has no entries, and there is room for an entry more with its labels
pub record HasRoom (facts : ℕ) (shelf r : Shelf) : Type 0 where
  pub sets : r.sets < max_sets
  pub used : r.used + (2 ^ facts / 2 + 2) ≤ lists_end - lists_at
  pub kept : (r ≡ shelf) ⊎ (r ≡ no_entries)

-- what the shelf rests on: a table of closures, a store d of its facts, and a slice that is long enough
pub record ShelfRoom (facts d : ℕ) (w : List ℕ) : Type 0 where
  pub few : facts ≤ max_facts
  pub table : TableOf facts w
  pub store : d < 2 ^ facts
  pub long : lists_end ≤ length w

-- an ask of c answered: its labels stand in v, the shelf still holds, and v is w outside the shelf
pub record LabelsGiven (w : List ℕ) (facts d c : ℕ) (r : Labelled) (v : List ℕ) : Type 0 where
  pub shelved : Shelved v facts d r.shelf
  pub low : lists_at ≤ r.first
  pub order : r.first ≤ r.end
  pub high : r.end ≤ lists_end
  pub labels : LabelsAre v facts d c (part v r.first r.end)
  pub same : SameOutside heads_at lists_end w v
