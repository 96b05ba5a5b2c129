-- Digits spread from sets to their subsets, fact by fact.
use Rattle.std.specs.Prelude.{◌≡◌, List, ℕ, ◌+◌, ◌*◌, ◌/◌, ◌^◌, ◌<◌, get_or}
use Rattle.std.specs.Int.Bits.{bit_or}
use Rattle.set_digits.specs.Frames.{SameOutside}
use Rattle.set_digits.specs.FactSets.{digit, Within}
use Rattle.set_digits.specs.SetDigits.{mark}

-- a place of the word r has a digit exactly where one that includes it has a digit in x
pub record WordSpread (x r : ℕ) : Type 0 where
  pub down : (p q : ℕ) → p < 32 → q < 32 → Within p q → digit x q ≡ 1 → digit r p ≡ 1
  pub only : (p : ℕ) → p < 32 → digit r p ≡ 1 → (q : ℕ) × (q < 32) × Within p q × (digit x q ≡ 1)

-- a set has a digit in v exactly where a set that includes it, and has no other facts from fact k on, has a digit in w
pub record SpreadDown (k at words : ℕ) (w v : List ℕ) : Type 0 where
  pub down : (s t : ℕ) → t < 32 * words → Within s t → s / 2 ^ k ≡ t / 2 ^ k → mark w at t ≡ 1 → mark v at s ≡ 1
  pub only : (s : ℕ) → s < 32 * words → mark v at s ≡ 1
      → (t : ℕ) × (t < 32 * words) × Within s t × (s / 2 ^ k ≡ t / 2 ^ k) × (mark w at t ≡ 1)
  pub same : SameOutside at (at + words) w v

-- the numbers from place `from` on, k of them, have those `half` places further added
pub record RunJoined (from half k : ℕ) (w v : List ℕ) : Type 0 where
  pub joined : (j : ℕ) → j < k → get_or v (from + j) 0 ≡ bit_or (get_or w (from + j) 0) (get_or w (from + half + j) 0)
  pub same : SameOutside from (from + k) w v

-- of so many words each without the fact that is worth 2 ^ b words has the digits of the word with it added, and each with it is as it was
pub record WordsJoined (b at words : ℕ) (w v : List ℕ) : Type 0 where
  pub lacking : (i : ℕ) → i < words → digit i b ≡ 0 → get_or v (at + i) 0 ≡ bit_or (get_or w (at + i) 0) (get_or w (at + i + 2 ^ b) 0)
  pub having : (i : ℕ) → i < words → digit i b ≡ 1 → get_or v (at + i) 0 ≡ get_or w (at + i) 0
  pub same : SameOutside at (at + words) w v
