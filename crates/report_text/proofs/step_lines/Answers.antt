-- Each turn stores the line of one step: after i of them the lines of the first i steps stand in the slice.
use native.Mathlib.Omega.{arith}
use Prim.Native.Nat.{ℕ}
use mathlib.Core.Path.{sym, ap, ◌∙◌}
use mathlib.Core.List.{◌++◌}
use Rattle.text.specs.StoredText.{stored_then}
use Rattle.report_text.specs.Runs.{place_none, place_next, lines_none, lines_next}
use Rattle.report_text.specs.AnswerText.{step_text, step_end, steps_text}
use Rattle.report_fields.specs.TextLaws.{stored_none, stored_as}
use Rattle.report_text.proofs.step_lines.Goals as goal

pub loop-i-init : goal.loop-i-init
loop-i-init c =
    let args = c.args in (
      omega (arith, place_none step_end args.start),
      omega arith,
      stored_as (sym (lines_none (λ _ from. step_text args.s.now from) step_end args.start)) (stored_none args.out.now args.at),
    )

pub loop-i-preserved : goal.loop-i-preserved
loop-i-preserved c =
    let args = c.args in
    let at-loop = c.loop-i in
    let inv = at-loop.invariant in
    let e = c.step_line-next.ensures in (
      omega (arith, inv.0, place_next step_end args.start at-loop.i),
      omega (arith, e.1),
      stored_as (ap (λ (k : ℕ). steps_text args.s.now args.start at-loop.i ++ step_text args.s.now k) inv.0
          ∙ sym (lines_next (λ _ from. step_text args.s.now from) step_end args.start at-loop.i)) (stored_then inv.2 e.0),
    )
