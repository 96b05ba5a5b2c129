-- The field ends at the next space.
use native.Mathlib.Omega.{arith}
use Rattle.printed_lines.specs.Lines.{space}
use Rattle.case_lines.specs.LineLaws.{end_within}
use Rattle.case_lines.proofs.number_at.Goals as goal

pub slice_bounds-number-end : goal.slice_bounds-number-end
slice_bounds-number-end c =
    let a = c.args in
    omega (arith, c.end_from-e.ensures, end_within space a.line.now a.at c.requires)
