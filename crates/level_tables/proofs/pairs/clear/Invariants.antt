-- As many numbers as were passed are 0.
use mathlib.Core.Path.{◌≡◌}
use Rattle.level_tables.specs.Pairs.{zeroed}
use Rattle.level_tables.proofs.pairs.clear.Given as goal

abbrev pub invariant-loop-i : goal.invariant-loop-i
invariant-loop-i l = l.w ≡ zeroed l.initial.w l.from l.i
