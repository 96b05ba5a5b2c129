-- Document 01, "Facts and stores": a set of facts is a number, and fact i is in it where the digit of weight 2 ^ i is 1.
use Rattle.std.specs.Prelude.{ℕ, ◌/◌, ◌%◌, ◌^◌, ◌≤◌}

-- digit i of a set's number: 1 where fact i is in the set, 0 where it is not
unfoldable pub digit : ℕ → ℕ → ℕ
digit n i = n / 2 ^ i % 2

-- every fact of a is in b: b includes a
pub record Within (a b : ℕ) : Type 0 where
  pub at : (i : ℕ) → digit a i ≤ digit b i
