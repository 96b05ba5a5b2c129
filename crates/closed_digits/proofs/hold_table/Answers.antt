-- The rules are put first; the digits behind them leave them as they are.
use native.Mathlib.Omega.{arith}
use mathlib.Core.Logic.{inl}
use Rattle.set_digits.specs.Frames.{outside_then}
use Rattle.held_rules.specs.HeldRuleLaws.{held_agree}
use Rattle.closed_digits.specs.ClosedDigits.{table_end}
use Rattle.closed_digits.proofs.hold_table.Goals as goal

pub returns : goal.returns
returns c =
    let h = c.hold_rules.ensures in
    let m = c.mark_closed in (
      held_agree m.new.work h.0 (λ i l. m.ensures.1.at i (inl l)),
      m.ensures.0,
      outside_then h.1 m.ensures.1 0 table_end (omega arith) (omega arith) (omega arith) (omega arith),
    )
