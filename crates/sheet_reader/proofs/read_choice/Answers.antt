-- `read_choice` hands up what `read_sheet` refused, and refuses a start that is not on the sheet, the left first.
use Rattle.std.proofs.Common.{sym, arith}
use Rattle.sheet_types.specs.Reading.{read_choice}
use Rattle.sheet_fields.specs.ReadingLaws.{choice_no_sheet}
use Rattle.sheet_reader.specs.SheetFound.{sheet_refused, found_no_left, found_no_right, found_chosen}
use Rattle.sheet_reader.proofs.read_choice.Goals as goal

pub returns-in_default : goal.returns-in_default
returns-in_default c =
    let a = c.args in
    let r = rw c.in_default.is at c.read_sheet-read.ensures in
    rw c.in_default.is
    (sheet_refused _ (read_choice a.s.now a.left a.right) _ (choice_no_sheet a.s.now a.left a.right (sym r.reading)))

pub returns-then-starts-left : goal.returns-then-starts-left
returns-then-starts-left c =
    let a = c.args in
    let r = rw c.in-Ok.is at c.read_sheet-read.ensures in
    rw c.at.ensures
    (sheet_refused _ (read_choice a.s.now a.left a.right) _ (found_no_left a.s.now a.left a.right _ r (omega arith)))

pub returns-then-starts-right : goal.returns-then-starts-right
returns-then-starts-right c =
    let a = c.args in
    let r = rw c.in-Ok.is at c.read_sheet-read.ensures in
    rw c.at-then-starts-right.ensures
    (sheet_refused _ (read_choice a.s.now a.left a.right) _ (found_no_right a.s.now a.left a.right _ r (omega arith) (omega arith)))

pub returns : goal.returns
returns c =
    let a = c.args in
    let r = rw c.in-Ok.is at c.read_sheet-read.ensures in
    rw c.in-Ok.is (found_chosen a.s.now a.left a.right _ r (omega arith) (omega arith))
