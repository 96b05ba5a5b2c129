-- The rules are put, and their least store, worked out from them, behind them.
use native.Mathlib.Omega.{arith}
use Prim.Native.Nat.{◌≤◌}
use lib.ListN.{length}
use Rattle.set_closure.specs.Frames.{outside_again, outside_wider, outside_set}
use Rattle.held_rules.specs.HeldRules.{least_at, rules_end}
use Rattle.held_rules.specs.HeldRuleLaws.{least_held}
use Rattle.held_rules.proofs.hold_rules.Goals as goal

pub returns : goal.returns
returns c =
    let put = c.put_rules in
    let long : rules_end ≤ length put.new.work = omega (arith, put.ensures.1.long, c.requires.1) in (
      least_held c.close.result long put.ensures.0 c.close.ensures,
      outside_again (outside_wider put.ensures.1 0 rules_end (omega arith) (omega arith))
          (outside_set 0 rules_end put.new.work least_at c.close.result (omega arith) (omega arith)),
    )
