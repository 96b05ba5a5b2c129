-- The words below w are cleared; those that include `high` are visited in ascending order.
use Prim.Native.Nat.{◌-◌, min}
use Rattle.set_digits.specs.FilledWords.{Filled}
use Rattle.set_digits.specs.ClearedWords.{cleared_word}
use Rattle.set_digits.specs.SetsAbove.{Has}
use Rattle.set_digits.proofs.clear_sets.Given as goal

abbrev pub invariant-loop-w : goal.invariant-loop-w
invariant-loop-w l = Has l.high l.w × Filled l.at (min l.w l.words) l.initial.work l.work (cleared_word l.initial.work l.at l.with l.stay l.high l.other)

abbrev pub decreases-loop-w : goal.decreases-loop-w
decreases-loop-w l = l.words - l.w
