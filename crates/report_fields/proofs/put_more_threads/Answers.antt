-- Each turn stores one thread after a plus sign: after i of them the first i threads stand in the slice.
use borrow.Author.Rules.{rules}
use native.Mathlib.Omega.{arith}
use Prim.Native.Nat.{ℕ, ◌+◌}
use lib.ListN.{get_or}
use Rattle.text.specs.StoredText.{stored_then}
use Rattle.report_fields.specs.TextLaws.{more_none, more_one, stored_none, stored_as}
use Rattle.report_fields.proofs.put_more_threads.Goals as goal

pub loop-i-init : goal.loop-i-init
loop-i-init c =
    let args = c.args in
    let f : ℕ → ℕ = λ j. get_or args.s.now (args.from + j) 0 in
    (search rules, stored_as (more_none f) (stored_none args.out.now args.at))

pub loop-i-preserved : goal.loop-i-preserved
loop-i-preserved c =
    let args = c.args in
    let at-loop = c.loop-i in
    let e = c.put_next_thread-next.ensures in (
      omega (arith, e.1),
      stored_as (more_one (λ j. get_or args.s.now (args.from + j) 0) at-loop.i) (stored_then at-loop.invariant.1 e.0),
    )
