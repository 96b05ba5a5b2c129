-- The bytes passed over are others, so the end from i on is the end from the place on.
use mathlib.Core.Path.{◌≡◌}
use Rattle.case_lines.specs.Lines.{end_from}
use Rattle.case_lines.proofs.end_from.Given as goal

abbrev pub invariant-loop-i : goal.invariant-loop-i
invariant-loop-i l = end_from l.stop l.s l.i ≡ end_from l.stop l.s l.at
