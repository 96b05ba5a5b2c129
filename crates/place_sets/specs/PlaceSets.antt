-- Sets of places as digits of words: place i is in the set that begins at word `at` where digit i % 64 of word at + i / 64 is 1.
use Rattle.std.specs.Prelude.{◌≡◌, List, ℕ, ◌+◌, ◌/◌, ◌%◌, ◌^◌, ◌≤◌, ◌<◌, length, get_or, set}
use Rattle.std.specs.Int.Bits.{bit_or}
use Rattle.store_laws.specs.FactSets.{digit}

abbrev pub place_digit : List ℕ → ℕ → ℕ → ℕ
place_digit ws at i = digit (get_or ws (at + i / 64) 0) (i % 64)

abbrev pub InSet : List ℕ → ℕ → ℕ → Type 0
InSet ws at i = place_digit ws at i ≡ 1

-- the words with place i put into the set at `at`
abbrev pub with_place : List ℕ → ℕ → ℕ → List ℕ
with_place ws at i = set ws (at + i / 64) (bit_or (get_or ws (at + i / 64) 0) (2 ^ (i % 64)))

-- v is u with the set of `width` words at `at` united into its first `width` words
pub record United (ws : List ℕ) (at width : ℕ) (u v : List ℕ) : Type 0 where
  pub long : length v ≡ length u
  pub both : (k : ℕ) → k < width → get_or v k 0 ≡ bit_or (get_or u k 0) (get_or ws (at + k) 0)
  pub rest : (k : ℕ) → width ≤ k → get_or v k 0 ≡ get_or u k 0

-- the first r numbers of the list are the places below n of the set that begins at word 0, in ascending order; the others are those
-- of the list before
pub record Listed (ws : List ℕ) (n : ℕ) (before list : List ℕ) (r : ℕ) : Type 0 where
  pub few : r ≤ n
  pub ascends : (j k : ℕ) → j < k → k < r → get_or list j 0 < get_or list k 0
  pub inside : (j : ℕ) → j < r → (get_or list j 0 < n) × InSet ws 0 (get_or list j 0)
  pub all : (i : ℕ) → i < n → InSet ws 0 i → (j : ℕ) × (j < r) × (get_or list j 0 ≡ i)
  pub rest : (j : ℕ) → r ≤ j → get_or list j 0 ≡ get_or before j 0
