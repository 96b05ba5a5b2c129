-- The members, and behind them the count of steps and the steps.
use native.Mathlib.Omega.{arith}
use borrow.Author.Rules.{rules}
use Rattle.report_bytes.specs.BytesStored.{members_within, held_length}
use Rattle.report_bytes.proofs.report_length.Goals as goal

pub overflow_add-result : goal.overflow_add-result
overflow_add-result c =
    let m = c.requires.members in
    search (rules, c.members_length.ensures, members_within c.args.work.now c.args.n m.packed, m.few)

pub overflow_add-result-2 : goal.overflow_add-result-2
overflow_add-result-2 c =
    let m = c.requires.members in
    search (rules, c.members_length.ensures, members_within c.args.work.now c.args.n m.packed, m.few, c.requires.steps.few)

pub returns : goal.returns
returns c =
    let args = c.args in
    omega (arith, c.members_length.ensures, held_length args.work.now args.n args.k)
