-- `telling` tries the moves of p in turn: none of those passed tells.
use Rattle.telling_moves.specs.TrailTests.{NoneTells}
use Rattle.telling_moves.proofs.telling.Given as goal

abbrev pub invariant-loop-j : goal.invariant-loop-j
invariant-loop-j l = NoneTells l.work l.n l.last l.r l.p l.q l.j
