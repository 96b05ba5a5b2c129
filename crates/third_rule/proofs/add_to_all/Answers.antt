-- `add_to_all`: members that come in leave the moves as they are, so each turn adds to the next move that was in hand at first.
use native.Mathlib.Omega.{arith}
use Rattle.third_rule.specs.ThirdRuleLaws.{before_next, over_then}
use Rattle.third_rule.proofs.add_to_all.Goals as goal

pub returns-in_err-run : goal.returns-in_err-run
returns-in_err-run c = rw c.from_residual.ensures (over_then c.requires.0 c.loop-i.invariant.kept c.in_err-run.ensures)

pub loop-i-preserved : goal.loop-i-preserved
loop-i-preserved c =
    let g = c.args in
    let l = c.loop-i in
    before_next g.b g.work.now g.s g.label c.requires.0 l.i l.work l.run c.add_to.new.work c.in_ok-run.run'
    (omega arith) (omega (arith, c.requires.2)) l.invariant c.in_ok-run.ensures
