-- `dominator_from` tries the moves from k on in turn: those passed do not dominate, and the first that is not passed does.
use Rattle.dominators.specs.DominatorSearch.{Passing}
use Rattle.dominators.proofs.dominator_from.Given as goal

abbrev pub invariant-loop-i : goal.invariant-loop-i
invariant-loop-i l = Passing l.work l.n l.first l.j l.k l.i
