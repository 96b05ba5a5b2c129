-- No set before place i is inside a.
use Rattle.std.proofs.Common.{◌≡◌, ℕ, ◌≤◌, ◌<◌, get_or, false}
use Rattle.stores.specs.Stores.{includes}
use Rattle.label_tests.proofs.inside_at.Given as goal

abbrev pub invariant-loop-i : goal.invariant-loop-i
invariant-loop-i l = (k : ℕ) → l.from ≤ k → k < l.i → includes l.a (get_or l.work k 0) ≡ false
