-- A line that is not passed over holds a case of the call that its first field names.
use mathlib.Core.Path.{sym}
use native.Mathlib.Omega.{arith}
use lib.Seq.{length-take-le}
use Rattle.printed_lines.specs.Lines.{space}
use Rattle.case_lines.specs.LineLaws.{end_within}
use Rattle.case_lines.proofs.line_of.Goals as goal

pub slice_bounds-call_of-end : goal.slice_bounds-call_of-end
slice_bounds-call_of-end c =
    let line = c.args.line.now in
    let word = c.end_from-word in
    sym (length-take-le word.result line (omega (arith, word.ensures, end_within space line 0 (omega arith))))
