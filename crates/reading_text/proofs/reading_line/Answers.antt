-- `reading_line` writes the line of what `read_choice` gives, case by case.
use Rattle.std.proofs.Common.{length}
use Rattle.sheet_types.specs.Reading.{read_choice}
use Rattle.reading_text.specs.ReadingText.{line_refused, line_read}
use Rattle.reading_text.proofs.reading_line.Goals as goal

pub returns-in-Err : goal.returns-in-Err
returns-in-Err c =
    let a = c.args in
    let r = c.in-Err.ensures in
    rw (line_refused (read_choice a.s.now a.left a.right) r.reading, ← c.number.ensures) c.refused_line.ensures

pub returns-in-Ok : goal.returns-in-Ok
returns-in-Ok c =
    let a = c.args in
    let r = c.in-Ok.ensures in
    rw (line_read (read_choice a.s.now a.left a.right) c.in-Ok.sheet (length a.s.now) r.reading) c.read_line.ensures
