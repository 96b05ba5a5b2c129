-- The lowest place of the order that may have an unexplored member, after a member was entered.
use Rattle.std.specs.Prelude.{cond, ℕ, min, eqb}
use Rattle.collected_moves.specs.declared.Running.{Running}

-- where there are n members now, and the one at place `at` is new if there were fewer before
abbrev pub lowest_of : Running → ℕ → ℕ → ℕ
lowest_of s n at = cond (eqb n s.members) s.low (min s.low at)
