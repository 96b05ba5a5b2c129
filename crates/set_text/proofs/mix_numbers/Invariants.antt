-- After i turns the first i numbers are mixed in.
use mathlib.Core.Path.{◌≡◌}
use Rattle.set_text.specs.SetText.{mix_all}
use Rattle.set_text.proofs.mix_numbers.Given as goal

abbrev pub invariant-loop-i : goal.invariant-loop-i
invariant-loop-i l = l.s ≡ mix_all l.work l.from l.i l.sum
