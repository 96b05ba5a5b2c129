-- The marked sets with so many facts, word by word.
use Rattle.std.specs.Prelude.{◌≡◌, ◌&&◌, List, ℕ, ◌+◌, ◌*◌, ◌%◌, ◌≤◌, ◌<◌, min, eqb, Option, Some, None}
use Rattle.place_sets.specs.Lists.{select}
use Rattle.set_digits.specs.FactSets.{digit}
use Rattle.set_digits.specs.Moves.{count_up}
use Rattle.set_digits.specs.OrderedSearch.{fact_count}
use Rattle.set_digits.specs.SetDigits.{bit, mark}

-- a word has the digits of the places with j facts
pub record PlacesOfSize (j x : ℕ) : Type 0 where
  pub digits : (p : ℕ) → p < 32 → digit x p ≡ bit (eqb (fact_count 5 p) j)

-- r is the least number of facts that a place with digit 1 in x has
pub record FirstLayer (x r : ℕ) : Type 0 where
  pub few : r ≤ 5
  pub below : (p : ℕ) → p < 32 → digit x p ≡ 1 → r ≤ fact_count 5 p
  pub some : (p : ℕ) × (p < 32) × (digit x p ≡ 1) × (fact_count 5 p ≡ r)

-- the lesser of k and another number, where there is one
abbrev pub lesser : ℕ → Option ℕ → ℕ
lesser k (Some l) = min k l
lesser k None = k

-- r is the lesser of `least` and the least number of facts of a set of word i whose digit in x is 1
abbrev pub LesserSize : ℕ → ℕ → Option ℕ → ℕ → Type 0
LesserSize x i least r = (j : ℕ) × FirstLayer x j × (r ≡ lesser (fact_count 16 i + j) least)

-- the least number of facts of a marked set, or none where none is marked
abbrev pub LeastSize : List ℕ → ℕ → ℕ → Option ℕ → Type 0
LeastSize w left words (Some r) =
    ((s : ℕ) → s < 32 * words → mark w left s ≡ 1 → r ≤ fact_count 16 s)
    × ((s : ℕ) × (s < 32 * words) × (mark w left s ≡ 1) × (fact_count 16 s ≡ r))
LeastSize w left words None = (s : ℕ) → s < 32 * words → mark w left s ≡ 1 → ⊥

-- the sets of word i whose digit in x is 1, in ascending order
unfoldable pub word_sets : ℕ → ℕ → List ℕ
word_sets i x = select (λ s. eqb (digit x (s % 32)) 1) (count_up (32 * i) 32)

-- r has the digits of x that belong to sets of word i with k facts
pub record SizeInWord (x i k r : ℕ) : Type 0 where
  pub digits : (p : ℕ) → p < 32 → eqb (digit r p) 1 ≡ (eqb (fact_count 16 (32 * i + p)) k && eqb (digit x p) 1)

-- the marked sets that have k facts, in ascending order
abbrev pub marked_of_size : List ℕ → ℕ → ℕ → ℕ → List ℕ
marked_of_size w left words k = select (λ s. eqb (fact_count 16 s) k && eqb (mark w left s) 1) (count_up 0 (32 * words))
