-- After i turns the set has the conclusions of those of the first i rules whose premises the given set includes.
use Rattle.held_rules.specs.HeldRuleLaws.{grown_fired, grown_idle, grown_all}
use Rattle.held_rules.specs.HeldRules.{held_count}
use native.Mathlib.Omega.{arith}
use Prim.Native.Nat.{◌<◌}
use Rattle.held_rules.proofs.grown.Goals as goal
use Rattle.held_rules.proofs.grown.Goals.{then-premise-set, else-premise-set}

pub loop-i-preserved : goal.loop-i-preserved
loop-i-preserved c =
    let l = c.loop-i in
    let on : l.i < held_count c.args.work.now =
    omega (arith, c.loop-i-test.true, c.requires.1) in
    elim c.if-premise-set.branch [
      | then-premise-set w ↦ rw w.more-is (grown_fired l.invariant on w.if-premise-set.true)
      | else-premise-set w ↦ grown_idle l.invariant on c.if-premise-set.more w.more-is w.if-premise-set.false
    ]

pub returns : goal.returns
returns c = grown_all c.loop-i.invariant (omega (arith, c.loop-i-test.false, c.requires.1))
