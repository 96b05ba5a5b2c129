-- Position, store, class, the threads after a space and the line's end are stored one after another.
use native.Mathlib.Omega.{arith}
use Prim.Native.Nat.{ℕ, ◌+◌}
use mathlib.Core.Path.{ap}
use Rattle.text.specs.Lines.{field}
use Rattle.report_fields.specs.SheetBytes.{word}
use Rattle.report_fields.specs.Print.{threads_text}
use Rattle.text.specs.StoredText.{stored_then}
use Rattle.report_fields.specs.AnswerFields.{threads_in}
use Rattle.report_fields.specs.TextLaws.{position_short, stored_as}
use Rattle.report_text.proofs.member_line.Goals as goal

pub returns : goal.returns
returns c =
    let count = c.thread_count-n.ensures in
    let args = c.args in
    let s = args.s.now in
    let from = args.from in
    let class-stored = stored_as (ap (λ (k : ℕ). field (word s (from + 3 + k))) count.0) c.put_word-c.ensures.0 in
    let threads-stored = stored_as (ap (λ (k : ℕ). threads_text (threads_in s (from + 3) k)) count.0) c.put_threads-e.ensures.0 in
    let numbers = stored_then (stored_then c.put_number-a.ensures.0 c.put_word-b.ensures.0) class-stored in (
      stored_then (stored_then numbers (stored_then c.put_byte-d.ensures threads-stored)) c.put_end.ensures,
      omega (
        arith,
        c.put_end.ensures.place,
        c.put_threads-e.ensures.1,
        c.put_byte-d.ensures.place,
        c.put_word-c.ensures.1,
        c.put_word-b.ensures.1,
        c.put_number-a.ensures.0.place,
        position_short args.position c.requires.1,
      ),
    )
