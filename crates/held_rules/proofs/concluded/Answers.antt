-- After i turns the set has the conclusions of the first i rules.
use Rattle.held_rules.specs.HeldRuleLaws.{united_none, united_next, count_fits}
use native.Mathlib.Omega.{arith}
use Rattle.held_rules.proofs.concluded.Goals as goal

pub loop-i-init : goal.loop-i-init
loop-i-init c =
    let w = c.args.work.now in
    (omega arith, omega (arith, c.held_count-n.ensures, count_fits w), united_none w)

pub loop-i-preserved : goal.loop-i-preserved
loop-i-preserved c =
    let l = c.loop-i in
    (omega arith, l.invariant.1, united_next c.args.work.now l.i l.all l.invariant.2)
