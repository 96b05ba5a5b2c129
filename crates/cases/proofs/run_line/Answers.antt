-- A case's name and digits are on its line.
use Rattle.case_lines.specs.LineLaws.{case_inside}
use Rattle.cases.proofs.run_line.Goals as goal
use Rattle.std.proofs.Common.{sym, ◌∙◌}

pub run_case-requires : goal.run_case-requires
run_case-requires c = case_inside c.args.line.now (sym c.line_of-held.ensures ∙ c.in-Holds.is)
