-- `found_classes` gives one member after the other its class of round 0.
use Rattle.round_steps.specs.FirstRound.{founding_next}
use native.Mathlib.Omega.{arith}
use Rattle.round_steps.proofs.found_classes.Goals as goal

pub loop-i-preserved : goal.loop-i-preserved
loop-i-preserved c =
    let l = c.loop-i in
    let f = c.found_class-count in
    let x = founding_next c.args.work.now l.i l.work l.count l.invariant (omega arith) (omega (arith, c.requires)) f.new.work
    f.result f.ensures in
    x
