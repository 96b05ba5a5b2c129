-- The first k numbers of the run are joined.
use Rattle.digit_spread.specs.DigitSpread.{RunJoined}
use Prim.Native.Nat.{◌≤◌}
use Rattle.digit_spread.proofs.join_runs.Given as goal

abbrev pub invariant-loop-k : goal.invariant-loop-k
invariant-loop-k l = (l.k ≤ l.half) × RunJoined l.from l.half l.k l.initial.work l.work
