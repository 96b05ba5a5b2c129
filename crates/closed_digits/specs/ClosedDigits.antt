-- A digit for each closed set, behind the rules at the beginning of a slice.
use Rattle.std.specs.Prelude.{◌≡◌, ◌&&◌, List, ℕ, ◌+◌, ◌*◌, ◌^◌, ◌<◌, eqb, ltb}
use Rattle.held_rules.specs.Stores.{Rule, closure}
use Rattle.set_digits.specs.SheetLimits.{max_facts}
use Rattle.held_rules.specs.HeldRules.{rules_end}
use Rattle.set_digits.specs.SetDigits.{bit, words_of, mark}

-- where the digits begin, and the first place after them
abbrev pub closed_at : ℕ
closed_at = rules_end

abbrev pub table_end : ℕ
table_end = closed_at + words_of max_facts

-- of the sets of so many facts those that are closed have the digit 1, and no other number has it
pub record ClosedMarked (rs : List Rule) (facts : ℕ) (w : List ℕ) : Type 0 where
  pub digits : (s : ℕ) → s < 32 * words_of facts → mark w closed_at s ≡ bit (ltb s (2 ^ facts) && eqb (closure rs s) s)
