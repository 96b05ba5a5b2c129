-- A hyphen for no thread; else the first thread's digits, and the others after plus signs.
use native.Mathlib.Omega.{arith}
use Prim.Native.Nat.{ℕ, ◌+◌, ◌-◌}
use mathlib.Core.Path.{ap, ◌∙◌}
use mathlib.Core.List.{◌++◌}
use Rattle.text.specs.Decimal.{decimal}
use Rattle.comparison.specs.Print.{more_threads}
use Rattle.text.specs.StoredText.{stored_then}
use Rattle.report_fields.specs.AnswerFields.{threads_in}
use Rattle.report_fields.specs.TextLaws.{threads_none, threads_some, byte_short, stored_as}
use Rattle.report_fields.proofs.put_threads.Goals as goal

pub returns-then-n-eq0 : goal.returns-then-n-eq0
returns-then-n-eq0 c =
    let args = c.args in
    let e = c.put_byte.ensures in (
      stored_as (threads_none args.s.now args.from args.n c.if-n-eq0.true) e,
      omega (arith, e.place),
    )

pub returns : goal.returns
returns c =
    let byte = c.byte_in in
    let args = c.args in
    let e = c.put_more_threads.ensures in
    let text =
    ap (λ (k : ℕ). decimal k ++ more_threads (threads_in args.s.now (args.from + 1) (args.n - 1))) byte.ensures.0
    ∙ threads_some args.s.now args.from args.n (omega arith) in (
      stored_as text (stored_then c.put_number-next.ensures.0 e.0),
      omega (arith, e.1, c.put_number-next.ensures.0.place, byte_short byte.result byte.ensures.1),
    )
