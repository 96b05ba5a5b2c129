-- Each turn stores one byte more.
use native.Mathlib.Omega.{arith}
use Rattle.list_laws.specs.Tabulate.{tabulate_none}
use Rattle.case_lines.specs.Lines.{byte_of}
use Rattle.case_lines.specs.LineLaws.{stored_next}
use Rattle.case_lines.proofs.decode_all.Goals as goal

pub loop-i-init : goal.loop-i-init
loop-i-init c = rw (tabulate_none (byte_of c.args.s.now))

pub loop-i-preserved : goal.loop-i-preserved
loop-i-preserved c =
    let a = c.args in
    let l = c.loop-i in
    rw (l.invariant, c.hex_digit-in-loop-i.ensures.0, c.hex_digit.ensures.0) (stored_next (byte_of a.s.now) a.out.now l.i (omega arith))
