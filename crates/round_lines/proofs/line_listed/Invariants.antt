-- `line_listed` goes through the list; a member that is ready stays ready while another one is worked out.
use Rattle.round_lines.specs.SetLinesFound.{SetLined}
use Rattle.round_lines.proofs.line_listed.Given as goal

abbrev pub invariant-loop-j : goal.invariant-loop-j
invariant-loop-j l = SetLined l.initial.work l.initial.sets l.width l.n l.list l.j l.work l.sets
