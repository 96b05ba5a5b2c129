-- A line ends within the text.
use Rattle.case_lines.specs.LineLaws.{end_within}
use Rattle.cases.proofs.run.Goals as goal
use Rattle.std.proofs.Common.{◌<◌, ◌≤◌, length, arith}

pub slice_bounds-run_line-end : goal.slice_bounds-run_line-end
slice_bounds-run_line-end c =
    omega (arith, c.end_from-end.ensures, end_within 10 c.args.text.now c.loop-at.at c.loop-at.invariant)
