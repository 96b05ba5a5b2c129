-- `split_rounds` goes on while a round splits a class, so each round but the last has a birth; there are no more classes than
-- members. In each round a member is listed or at rest. A split behind the limit is taken back.
use Rattle.class_rounds.specs.RoundsDone.{Refining}
use Prim.Native.Nat.{◌-◌, ◌≤◌}
use Rattle.class_rounds.proofs.split_rounds.Given as goal

abbrev pub invariant-loop-count : goal.invariant-loop-count
invariant-loop-count l = record {
  refining : Refining l.fn.work l.n l.m l.work l.sets l.width l.list l.k l.round l.count;
  within : l.round ≤ l.limit;
}

abbrev pub decreases-loop-count : goal.decreases-loop-count
decreases-loop-count l = l.n - l.count
