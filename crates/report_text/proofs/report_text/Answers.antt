-- The first line, the count of members, their lines, the count of steps and their lines are stored one after another.
use native.Mathlib.Omega.{arith}
use Rattle.text.specs.StoredText.{stored_then}
use Rattle.report_fields.specs.TextLaws.{stored_as}
use Rattle.report_text.specs.ReportTextLaws.{text_parts, report_written}
use Rattle.report_text.proofs.report_text.Goals as goal

pub returns : goal.returns
returns c =
    let args = c.args in
    let n = c.count_in-n in
    let k = c.count_in-k in
    let m = c.member_lines-members in
    let s = args.answer.now in
    let first = stored_then c.verdict_line-a.ensures.0 c.put_line-b.ensures.0 in
    let upto = stored_then (stored_then first m.ensures.text) c.put_line-c.ensures.0 in
    let all = stored_then upto c.step_lines.ensures.0 in
    let text = text_parts args.same args.round s n.result k.result m.result.from n.ensures.0 m.ensures.from
    k.ensures.0 in
    report_written args.same args.round s (stored_as text all)
    (omega (
      arith,
      c.step_lines.ensures.1,
      c.put_line-c.ensures.1,
      m.ensures.short,
      c.put_line-b.ensures.1,
      c.verdict_line-a.ensures.1,
      n.ensures.1,
      k.ensures.1,
      c.requires,
    ))
