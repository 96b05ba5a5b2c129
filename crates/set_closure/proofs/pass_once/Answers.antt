-- After i turns the set is that of a pass over the first i rules.
use Rattle.set_closure.specs.PassLaws.{passed_none, passed_next}
use Rattle.set_closure.proofs.pass_once.Goals as goal

pub loop-i-init : goal.loop-i-init
loop-i-init c = passed_none

pub loop-i-preserved : goal.loop-i-preserved
loop-i-preserved c = passed_next c.loop-i.invariant c.loop-i-test.true c.fire-s.ensures
