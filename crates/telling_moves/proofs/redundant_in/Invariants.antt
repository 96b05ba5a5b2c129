-- `redundant_in` tries the moves before the j-th in turn: none of those passed makes it redundant.
use Rattle.telling_moves.specs.TrailTests.{NotRedundant}
use Rattle.telling_moves.proofs.redundant_in.Given as goal

abbrev pub invariant-loop-k : goal.invariant-loop-k
invariant-loop-k l = NotRedundant l.work l.n l.last l.r l.first l.j l.k
