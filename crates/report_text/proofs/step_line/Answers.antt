-- The letter, the two fields, the reply after a space and the line's end are stored one after another.
use mathlib.Core.Path.{ap, ◌∙◌}
use mathlib.Core.List.{[], ◌∷◌}
use Prim.Native.Nat.{ℕ}
use Rattle.text.specs.StoredText.{stored_then}
use Rattle.report_fields.specs.AnswerFields.{letter_of}
use Rattle.report_fields.specs.TextLaws.{stored_as}
use native.Mathlib.Omega.{arith}
use Rattle.report_text.proofs.step_line.Goals as goal

pub returns : goal.returns
returns c =
    let letter = c.side_letter.ensures ∙ ap letter_of c.byte_in.ensures.0 in
    let first = stored_as (ap (λ (b : ℕ). b ∷ []) letter) c.put_byte-a.ensures in
    let numbers = stored_then (stored_then first c.put_word-b.ensures.0) c.put_word-c.ensures.0 in (
      stored_then (stored_then numbers (stored_then c.put_byte-d.ensures c.put_reply-e.ensures.0)) c.put_end.ensures,
      omega (
        arith,
        c.put_end.ensures.place,
        c.put_reply-e.ensures.1,
        c.put_byte-d.ensures.place,
        c.put_word-c.ensures.1,
        c.put_word-b.ensures.1,
        c.put_byte-a.ensures.place,
      ),
    )
