-- Ten times the power is not above the number yet.
use borrow.Author.Rules.{rules}
use native.Mathlib.Omega.{arith}
use Rattle.text.specs.Powers.{power_next, power_inside}
use Rattle.text.proofs.first_place.Goals as goal

pub loop-q-preserved : goal.loop-q-preserved
loop-q-preserved c =
    let l = c.loop-q in
    (search rules, omega (arith, power_inside c.args.n l.q l.invariant.0 c.loop-q-test.true), power_next l.invariant.2)
