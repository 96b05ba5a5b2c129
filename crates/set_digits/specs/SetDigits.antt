-- One digit for each set of facts, 32 sets to a word: the digit of set s is digit s % 32 of the word at s / 32.
use Rattle.std.specs.Prelude.{◌≡◌, Bool, cond, List, ℕ, ◌+◌, ◌-◌, ◌*◌, ◌/◌, ◌%◌, ◌^◌, ◌<◌, get_or, take, drop, eqb, ltb}
use Rattle.search_laws.specs.Lists.{select, all}
use Rattle.search_laws.specs.Frames.{SameOutside}
use Rattle.search_laws.specs.FactSets.{digit}
use Rattle.search_laws.specs.Stores.{includes}
use Rattle.search_laws.specs.Moves.{count_up}

-- 1 where a test passes, else 0
abbrev pub bit : Bool → ℕ
bit b = cond b 1 0

-- how many words have a digit for every set of so many facts
abbrev pub words_of : ℕ → ℕ
words_of facts = 2 ^ (facts - 5)

-- the digit of set s, in the words from place `at` on
abbrev pub mark : List ℕ → ℕ → ℕ → ℕ
mark w at s = digit (get_or w (at + s / 32) 0) (s % 32)

-- a word has the digits of the places that include b
pub record PlacesAbove (b x : ℕ) : Type 0 where
  pub digits : (p : ℕ) → p < 32 → digit x p ≡ bit (includes p b)

-- a word has the digits of the sets of so many facts, as far as they are among its places
pub record FirstWord (facts x : ℕ) : Type 0 where
  pub digits : (p : ℕ) → p < 32 → digit x p ≡ bit (ltb p (2 ^ facts))

-- v is w but for so many words from `at` on, in which set s has the digit that is given for it
pub record Marked (at words : ℕ) (w v : List ℕ) (given : ℕ → ℕ) : Type 0 where
  pub digits : (s : ℕ) → s < 32 * words → mark v at s ≡ given s
  pub same : SameOutside at (at + words) w v

-- the sets whose digit is 1, in ascending order
abbrev pub marked_sets : List ℕ → ℕ → ℕ → List ℕ
marked_sets w at words = select (λ s. eqb (mark w at s) 1) (count_up 0 (32 * words))

-- no word has a digit 1
abbrev pub none_marked : List ℕ → ℕ → ℕ → Bool
none_marked w at words = all (λ x. eqb x 0) (take words (drop at w))
