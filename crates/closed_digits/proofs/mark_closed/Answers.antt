-- After i turns the sets that are closed under the first i rules are marked.
use borrow.Author.Rules.{rules}
use native.Mathlib.Omega.{arith}
use Rattle.set_digits.specs.Frames.{outside_same, outside_wider, outside_again}
use Rattle.closed_digits.specs.ClosedDigits.{closed_at, table_end}
use Rattle.closed_digits.specs.ClosedDigitLaws.{closed_first_lem, closed_next}
use Rattle.closed_digits.proofs.mark_closed.Goals as goal

pub loop-i-init : goal.loop-i-init
loop-i-init c =
    let b = c.args in
    let m = c.mark_all in
    (search rules, closed_first_lem b.rules.now m.ensures, outside_same closed_at table_end m.new.work)

pub loop-i-preserved : goal.loop-i-preserved
loop-i-preserved c =
    let l = c.loop-i in
    let s = c.clear_sets.ensures in (
      search rules,
      closed_next c.args.rules.now l.i c.words_of-words.ensures.0 c.from-premise.ensures c.from-conclusion.ensures l.invariant.1 s,
      outside_again l.invariant.2 (outside_wider s.same closed_at table_end (omega arith) (omega (arith, c.words_of-words.ensures.1))),
    )
