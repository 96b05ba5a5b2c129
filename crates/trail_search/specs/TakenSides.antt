-- The sides of a trail as the numbers that are stored for them, and the move that is taken at a pair.
use Rattle.std.specs.Prelude.{Option, Some, None, List, ℕ}
use Rattle.trail_search.specs.declared.Side.{Side}
use Rattle.trail_search.specs.declared.Side.TheVariants.{Left, Right}
use Rattle.trail_search.specs.declared.Taken.{Taken}
use Rattle.trail_search.specs.TakenMove.{Takes, NoneTakes}

-- 0 stands for the left, 1 for the right
abbrev pub side_number : Side → ℕ
side_number Left = 0
side_number Right = 1

-- a move is taken, or neither has one
abbrev pub TakenIs : List ℕ → ℕ → ℕ → ℕ → ℕ → ℕ → Option Taken → Type 0
TakenIs w n last r p q (Some t) = Takes w n last r p q (side_number t.side) t.number
TakenIs w n last r p q None = NoneTakes w n last r p q
