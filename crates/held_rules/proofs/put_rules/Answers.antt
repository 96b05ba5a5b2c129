-- After i turns the first i rules stand in their places, and from place n on rules without a conclusion.
use Rattle.held_rules.specs.HeldRuleLaws.{put_all}
use native.Mathlib.Omega.{arith}
use Rattle.held_rules.proofs.put_rules.Goals as goal

pub returns : goal.returns
returns c = (put_all c.loop-i.invariant (omega arith) (omega arith), c.loop-i.invariant.same)
