-- A line that is stored from the slice's start.
use native.Mathlib.Omega.{arith}
use Rattle.text.specs.StoredText.{line_written_lem}
use Rattle.text.proofs.number_line.Goals as goal

pub returns : goal.returns
returns c =
    let p = c.put_line.ensures in
    line_written_lem p.0 c.if-out-lt-LINE_ROOM.false (omega (arith, p.1))
