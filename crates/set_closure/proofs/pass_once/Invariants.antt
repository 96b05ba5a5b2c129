-- After i turns the set is that of a pass over the first i rules.
use Rattle.set_closure.specs.PassLaws.{PassedTo}
use Rattle.set_closure.proofs.pass_once.Given as goal

abbrev pub invariant-loop-i : goal.invariant-loop-i
invariant-loop-i l = PassedTo l.rules l.n l.set l.i l.s
