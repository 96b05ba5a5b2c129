-- The number has at most five digits, so that the field ends at most six places further.
use mathlib.Core.Path.{ap}
use Rattle.text.specs.Lines.{field}
use Rattle.report_fields.specs.TextLaws.{word_short, stored_as}
use native.Mathlib.Omega.{arith}
use Rattle.report_fields.proofs.put_word.Goals as goal

pub returns : goal.returns
returns c =
    let e = c.put_field.ensures in
    let w = c.word_in in
    (stored_as (ap field w.ensures.0) e.0, omega (arith, e.0.place, word_short w.result w.ensures.1))
