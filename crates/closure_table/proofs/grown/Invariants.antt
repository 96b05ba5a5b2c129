-- No rule before the i-th adds anything: a pass over them leaves the set. The first that does makes what a pass over it too makes.
use Rattle.set_closure.specs.PassLaws.{PassedTo}
use Rattle.closure_table.proofs.grown.Given as goal

abbrev pub invariant-loop-i : goal.invariant-loop-i
invariant-loop-i l = PassedTo l.rules l.n l.set l.i l.set
