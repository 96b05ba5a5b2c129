-- A refusal of the reader is handed up and leaves the work slice as it is; of a sheet that was read the set of its seeds is begun.
use mathlib.Core.Path.{sym}
use Rattle.std.specs.Prelude.{length}
use Rattle.sheet_types.specs.Reading.{read_choice}
use Rattle.found_set.specs.FoundSet.{limits_of}
use Rattle.call_seeds.specs.ChoiceLaws.{read_is, choice_held}
use Rattle.call_frame.specs.BegunLaws.{read_refused, read_begun}
use Rattle.call_frame.proofs.begin.Goals as goal

pub returns-in-Err : goal.returns-in-Err
returns-in-Err c =
    let args = c.args in
    read_refused (limits_of args.caps) args.sheet.now args.left args.right args.all args.work.now _ 0 (sym c.in-Err.ensures.reading)

pub begin_seeds-requires : goal.begin_seeds-requires
begin_seeds-requires c =
    let args = c.args in
    (c.requires, choice_held args.sheet.now args.left args.right _ c.in-Ok.ensures)

pub returns : goal.returns
returns c =
    let args = c.args in
    read_begun (limits_of args.caps) args.sheet.now args.left args.right args.all args.work.now
    (read_is (length args.sheet.now) (read_choice args.sheet.now args.left args.right) _ c.in-Ok.ensures) c.begin_seeds.ensures
