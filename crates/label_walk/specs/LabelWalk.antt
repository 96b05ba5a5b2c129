-- Sets that pass a test come up by number of facts, then by number; those that include one found before are passed over.
use Rattle.std.specs.Prelude.{◌≡◌, Bool, not, ◌&&◌, List, [], ◌++◌, ℕ, zero, suc, ◌+◌, ◌*◌, ◌^◌, ◌≤◌, ◌<◌, get_or, take, drop}
use Rattle.digit_lists.specs.Lists.{select}
use Rattle.set_digits.specs.Moves.{count_up}
use Rattle.set_digits.specs.OrderedSearch.{sets_of_size, is_covered}
use Rattle.set_digits.specs.SetDigits.{words_of, mark}

-- what is found among the sets of n facts that have fewer than k of them
unfoldable pub found_below : (ℕ → Bool) → ℕ → ℕ → List ℕ
found_below p n zero = []
found_below p n (suc k) = let found = found_below p n k in found ++ select (λ s. p s && not (is_covered found s)) (sets_of_size n k)

-- what is found among all sets of n facts
abbrev pub found_in : (ℕ → Bool) → ℕ → List ℕ
found_in p n = found_below p n (suc n)

-- n numbers of a slice from `at` on
abbrev pub numbers_at : List ℕ → ℕ → ℕ → List ℕ
numbers_at w at n = take n (drop at w)

-- they are sets of so many facts
pub record SetsAt (facts at n : ℕ) (w : List ℕ) : Type 0 where
  pub sets : (i : ℕ) → i < n → get_or w (at + i) 0 < 2 ^ facts

-- no digit beyond those of the sets of so many facts is 1
pub record NoneBeyond (facts left : ℕ) (w : List ℕ) : Type 0 where
  pub none : (s : ℕ) → 2 ^ facts ≤ s → s < 32 * words_of facts → mark w left s ≡ 0

-- the numbers from place `from` on, before `end`, are as they were
pub record KeptBetween (from end : ℕ) (w v : List ℕ) : Type 0 where
  pub at : (i : ℕ) → from ≤ i → i < end → get_or v i 0 ≡ get_or w i 0

-- the sets of n facts that include none of those found
abbrev pub free_sets : List ℕ → ℕ → List ℕ
free_sets found n = select (λ s. not (is_covered found s)) (count_up 0 (2 ^ n))
