-- A table of pairs that begins at a place of a slice: the number of pairs that it has room for, their count, the pairs, the
-- slots.
use Rattle.std.specs.Prelude.{Option, Some, None, ◌≡◌, Bool, cond, true, ◌&&◌, ◌||◌, List, ℕ, zero, suc, ◌+◌, ◌*◌, ◌-◌, set, eqb, ltb}
use Rattle.level_tables.specs.Numbers.{none, number_at}

-- so many numbers from a place on are 0
unfoldable pub zeroed : List ℕ → ℕ → ℕ → List ℕ
zeroed w from zero = w
zeroed w from (suc n) = set (zeroed w from n) (from + n) 0

-- a table without pairs, with room for so many
abbrev pub emptied : List ℕ → ℕ → ℕ → List ℕ
emptied w base room = set (zeroed w base (4 * room + 2)) base room

abbrev pub count_of : List ℕ → ℕ → ℕ
count_of w base = number_at w (base + 1)

-- the place of the first number of pair i, for k = 2, and of its second, for k = 3
unfoldable pub pair_place : ℕ → ℕ → ℕ → ℕ
pair_place base i k = cond (ltb i 65536) (base + 2 * i + k) none

abbrev pub first_of : List ℕ → ℕ → ℕ → ℕ
first_of w base i = number_at w (pair_place base i 2)

abbrev pub second_of : List ℕ → ℕ → ℕ → ℕ
second_of w base i = number_at w (pair_place base i 3)

-- pair i is this one
abbrev pub is_pair : List ℕ → ℕ → ℕ → ℕ → ℕ → Bool
is_pair w base a b i = eqb (first_of w base i) a && eqb (second_of w base i) b

-- a slot is free or the pair's
unfoldable pub settled_at : List ℕ → ℕ → ℕ → ℕ → ℕ → Bool
settled_at w base slot a b = eqb (number_at w slot) 0 || is_pair w base a b (number_at w slot - 1)

-- what the search for a pair's slot gives
abbrev pub Slot : List ℕ → ℕ → ℕ → ℕ → Option ℕ → Type 0
Slot w base a b None = Unit {0}
Slot w base a b (Some slot) = settled_at w base slot a b ≡ true

-- what the search for a pair gives: none, or the number of that pair
abbrev pub Found : List ℕ → ℕ → ℕ → ℕ → Option ℕ → Type 0
Found w base a b None = Unit {0}
Found w base a b (Some i) = is_pair w base a b i ≡ true

-- the slice with pair n, and n + 1 in its slot and as the count
abbrev pub with_pair : List ℕ → ℕ → ℕ → ℕ → ℕ → ℕ → List ℕ
with_pair w base slot n a b = set (set (set (set w (pair_place base n 2) a) (pair_place base n 3) b) slot (n + 1)) (base + 1) (n + 1)

-- a new pair is stored behind the others, unless the table is full
abbrev pub Appended : List ℕ → ℕ → ℕ → ℕ → ℕ → List ℕ → Option ℕ → Type 0
Appended w base slot a b after None = after ≡ w
Appended w base slot a b after (Some n) = (n ≡ count_of w base) × (after ≡ with_pair w base slot n a b)

-- what entering a pair gives: nothing changes where it is there or where there is no room
pub data Entered (w : List ℕ) (base a b : ℕ) : List ℕ → Option ℕ → Type 0 where
  full : Entered w base a b w None
  there : {i : ℕ} → is_pair w base a b i ≡ true → Entered w base a b w (Some i)
  new : (slot : ℕ) {n : ℕ} {after : List ℕ} → n ≡ count_of w base → after ≡ with_pair w base slot n a b → Entered w base a b after (Some n)
