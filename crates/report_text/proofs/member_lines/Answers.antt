-- Each turn stores the line of one member: after i of them the lines of the first i members stand in the slice.
use native.Mathlib.Omega.{arith}
use Prim.Native.Nat.{ℕ, ◌+◌}
use mathlib.Core.Path.{◌≡◌, sym, ap, ap₂, ◌∙◌}
use mathlib.Core.List.{◌++◌}
use Rattle.text.specs.StoredText.{stored_then}
use Rattle.report_text.specs.Runs.{place_none, place_next, lines_none, lines_next}
use Rattle.report_fields.specs.AnswerFields.{thread_count}
use Rattle.report_text.specs.AnswerText.{member_end, member_text, members_text}
use Rattle.report_fields.specs.TextLaws.{stored_none, stored_as}
use Rattle.report_text.proofs.member_lines.Goals as goal

pub loop-i-init : goal.loop-i-init
loop-i-init c =
    let args = c.args in (
      sym (place_none (member_end args.s.now) 2),
      omega arith,
      omega arith,
      stored_as (sym (lines_none (member_text args.s.now) (member_end args.s.now) 2)) (stored_none args.out.now args.at),
    )

pub loop-i-preserved : goal.loop-i-preserved
loop-i-preserved c =
    let args = c.args in
    let at-loop = c.loop-i in
    let inv = at-loop.invariant in
    let e = c.member_line-next.ensures in
    let s = args.s.now in
    let i = at-loop.i in
    let n = c.thread_count.ensures in
    let k = c.thread_count.result in
    let end : at-loop.from + (5 + k) ≡ at-loop.from + 5 + k = omega arith in
    let text = ap (λ (f : ℕ). members_text s i ++ member_text s i f) inv.0 ∙ sym (lines_next (member_text s) (member_end s) 2 i) in (
      end ∙ ap₂ (λ (f : ℕ) (k : ℕ). f + 5 + k) inv.0 (n.0 ∙ ap (thread_count s) inv.0) ∙ sym (place_next (member_end s) 2 i),
      omega (arith, n.1),
      omega (arith, e.1),
      stored_as text (stored_then inv.3 e.0),
    )
