-- No rule before the i-th adds anything: a pass over them leaves the set. The first that does makes what a pass over it too makes.
use native.Mathlib.Omega.{arith}
use mathlib.Core.Path.{sym, subst}
use Rattle.set_closure.specs.PassLaws.{PassedTo, passed_none, passed_next, passed_all}
use Rattle.closure_table.specs.FillLaws.{pass_grown}
use Rattle.closure_table.proofs.grown.Goals as goal

pub loop-i-init : goal.loop-i-init
loop-i-init c = passed_none

pub returns-then-t-set : goal.returns-then-t-set
returns-then-t-set c = pass_grown (passed_next c.loop-i.invariant c.loop-i-test.true c.fire-t.ensures) (λ e. absurd (c.if-t-set.true e))

pub loop-i-preserved : goal.loop-i-preserved
loop-i-preserved c =
    let g = c.args in
    subst (PassedTo g.rules.now g.n g.set _) c.if-t-set.false (passed_next c.loop-i.invariant c.loop-i-test.true c.fire-t.ensures)

pub returns : goal.returns
returns c =
    let P = c.loop-i.invariant in
    pass_grown P (λ q. sym (passed_all P (omega arith)))
