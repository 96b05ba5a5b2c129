-- `forget_dominators` stores what stands for none at each of the first m places, one after the other.
use lib.ListN.{length}
use Rattle.dominators.specs.ForgottenMoves.{Forgotten}
use mathlib.Core.Path.{◌≡◌}
use Prim.Native.Nat.{◌≤◌}
use Rattle.dominators.proofs.forget_dominators.Given as goal

abbrev pub invariant-loop-k : goal.invariant-loop-k
invariant-loop-k l = (l.k ≤ l.m) × (length l.work ≡ length l.initial.work) × Forgotten l.initial.work l.k l.work
