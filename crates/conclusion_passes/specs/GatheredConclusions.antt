-- The union of the conclusions of all rules whose premise is inside a set, for every set at once: one pass over the table for each fact.
use Rattle.std.specs.Prelude.{◌≡◌, cond, ℕ, ◌+◌, ◌-◌, ◌*◌, ◌/◌, ◌%◌, ◌^◌, ◌≤◌, ◌<◌, length, get_or, set, ltb}
use mathlib.Core.List.{List, Memᴰ}
use Rattle.std.specs.Int.Bits.{bit_or}
use Rattle.closure_table.specs.FactSets.{Within}
use Rattle.closure_table.specs.Stores.{Rule, Closed}

-- x has the conclusion of each rule whose premise is inside s and has the facts of s from fact b on, and no fact that a closed set
-- around s lacks
pub record Entry (rs : List Rule) (b s x : ℕ) : Type 0 where
  pub inside : (c : ℕ) → Closed rs c → Within s c → Within x c
  pub whole : (r : Rule) → Memᴰ r rs → Within r.premise s → r.premise / 2 ^ b ≡ s / 2 ^ b → Within r.conclusion x

-- so has each number of the table below the size
pub record ConclusionsGathered (rs : List Rule) (b size : ℕ) (table : List ℕ) : Type 0 where
  pub at : (s : ℕ) → s < size → Entry rs b s (get_or table s 0)

-- the table with the conclusion added at the premise, where that is below the size
abbrev pub put_rule : ℕ → ℕ → ℕ → List ℕ → List ℕ
put_rule size p c table = cond (ltb p size) (set table p (bit_or (get_or table p 0) c)) table

-- the numbers from place `from` on, k of them, are added to those from place `from + half` on
pub record United (from half k : ℕ) (before after : List ℕ) : Type 0 where
  pub long : length after ≡ length before
  pub joined : (j : ℕ) → j < k → get_or after (from + half + j) 0 ≡ bit_or (get_or before (from + half + j) 0) (get_or before (from + j) 0)
  pub under : (s : ℕ) → s < from + half → get_or after s 0 ≡ get_or before s 0
  pub beyond : (s : ℕ) → from + half + k ≤ s → get_or after s 0 ≡ get_or before s 0

-- below the bound each set with fact b has what the set without it had added
pub record Spread (b bound : ℕ) (before after : List ℕ) : Type 0 where
  pub long : length after ≡ length before
  pub without : (s : ℕ) → s < bound → s / 2 ^ b % 2 ≡ 0 → get_or after s 0 ≡ get_or before s 0
  pub having : (s : ℕ) → s < bound → s / 2 ^ b % 2 ≡ 1 → get_or after s 0 ≡ bit_or (get_or before s 0) (get_or before (s - 2 ^ b) 0)
  pub beyond : (s : ℕ) → bound ≤ s → get_or after s 0 ≡ get_or before s 0

-- of so many blocks those before the q-th are spread, and those from it on are as they were
pub record BlocksSpread (b blocks q : ℕ) (before after : List ℕ) : Type 0 where
  pub few : q ≤ blocks
  pub spread : Spread b (2 * q * 2 ^ b) before after
