-- `answered_in` tries the moves of q in turn: none of those passed answers.
use Rattle.telling_moves.specs.TrailTests.{NotAnswered}
use Rattle.telling_moves.proofs.answered_in.Given as goal

abbrev pub invariant-loop-k : goal.invariant-loop-k
invariant-loop-k l = NotAnswered l.work l.last l.r l.q l.y l.k
