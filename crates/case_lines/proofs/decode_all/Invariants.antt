-- After i turns the first i bytes stand at the start.
use Rattle.std.proofs.Common.{◌≡◌, ◌++◌, drop}
use Rattle.list_laws.specs.Tabulate.{tabulate}
use Rattle.case_lines.specs.Lines.{byte_of}
use Rattle.case_lines.proofs.decode_all.Given as goal

abbrev pub invariant-loop-i : goal.invariant-loop-i
invariant-loop-i l = l.out ≡ tabulate (byte_of l.s) l.i ++ drop l.i l.initial.out
