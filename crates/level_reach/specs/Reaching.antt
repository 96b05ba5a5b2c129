-- What is known of the configurations that were reached.
use Rattle.std.specs.Prelude.{Option, List, ℕ}
use Rattle.level_tables.specs.Pairs.{count_of, first_of, second_of, Found}
use Rattle.level_reach.specs.Constraints.{constraint_of, joined_in}

-- where the table of configurations begins, and how many there are
abbrev pub table : ℕ
table = 21512

abbrev pub configurations : List ℕ → ℕ
configurations w = count_of w table

-- the configuration with p's threads, and p's store joined with constraint e
abbrev pub AddedAs : List ℕ → ℕ → ℕ → Option ℕ → Type 0
AddedAs w p e r = Found w table (joined_in w (first_of w table p) (constraint_of w e)) (second_of w table p) r
