-- `mark` enters the node among the marks; where there is no room it was not among them, and it is entered among none.
use native.Mathlib.Omega.{arith}
use Rattle.member_table.specs.EntryFound.{entry_member, entry_full}
use Rattle.node_marks.specs.MarkLaws.{forgotten_kept, entered_marks, forgotten_marks}
use Rattle.node_marks.proofs.mark.Goals as goal

pub enter_at-again-requires : goal.enter_at-again-requires
enter_at-again-requires c =
    let r = c.enter_at-found in
    let f = entry_full c.in_default.is r.ensures.0 in
    (forgotten_kept c.requires.0 f.1, c.requires.1, omega arith, omega arith)

pub returns-in_default : goal.returns-in_default
returns-in_default c =
    let r = c.enter_at-found in
    let f = entry_full c.in_default.is r.ensures.0 in
    let n = c.enter_at-again in
    forgotten_marks f.2 (forgotten_kept c.requires.0 f.1) (entry_member c.in-Some-again.is n.ensures.0)
    r.ensures.1 n.ensures.1

pub returns : goal.returns
returns c =
    let r = c.enter_at-found in
    entered_marks c.requires.0 (entry_member c.in-Some.is r.ensures.0) r.ensures.1
