-- `first_layer`: each place with digit 1 has j facts or more.
use Prim.Native.Nat.{◌≤◌}
use Rattle.digit_lists.specs.LeastSizes.{NoneFewer}
use Rattle.digit_lists.proofs.first_layer.Given as goal

abbrev pub invariant-loop-j : goal.invariant-loop-j
invariant-loop-j l = (l.j ≤ 5) × NoneFewer l.x l.j
