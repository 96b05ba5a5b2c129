-- Tests of a set that may give a label, read off a slice that begins with a table of closures.
use Rattle.std.specs.Prelude.{◌≡◌, Bool, true, false, ◌&&◌, List, ℕ, ◌-◌, ◌≤◌, ◌<◌, get_or, eqb, Option, Some, None}
use Rattle.std.specs.Int.Bits.{bit_or}
use Rattle.stores.specs.Stores.{includes}

-- By the table: the facts that v has outside d close to no more outside d, and v makes c true. v has all facts of d.
abbrev pub passes_by : List ℕ → ℕ → ℕ → ℕ → Bool
passes_by w d c v = eqb (bit_or d (get_or w (v - d) 0)) v && includes (get_or w v 0) c

-- a place from `from` on, before `end`, whose set is inside a, or none where there is none
abbrev pub InsideAt : List ℕ → ℕ → ℕ → ℕ → Option ℕ → Type 0
InsideAt w from end a (Some r) = (from ≤ r) × (r < end) × (includes a (get_or w r 0) ≡ true)
InsideAt w from end a None = (i : ℕ) → from ≤ i → i < end → includes a (get_or w i 0) ≡ false
