-- 65535 is printed as a hyphen, any other number by its digits.
use mathlib.Core.Path.{ap, ◌∙◌}
use Rattle.report_fields.specs.AnswerFields.{reply_of}
use Rattle.report_fields.specs.TextLaws.{reply_some, word_short, stored_as}
use native.Mathlib.Omega.{arith}
use Rattle.report_fields.proofs.put_reply.Goals as goal

pub returns : goal.returns
returns c =
    let e = c.put_number.ensures in
    let w = c.word_in-number in (
      stored_as (reply_some w.result c.if-number-eq-NO_REPLY.false ∙ ap reply_of w.ensures.0) e.0,
      omega (arith, e.0.place, word_short w.result w.ensures.1),
    )
