-- What the frame refuses is handed up, and leaves the answer slice as it is; on the set that it leaves the report is made, and then
-- the work slice is cleared.
use borrow.Author.Rules.{rules}
use Rattle.call_frame.specs.FoundSet.{limits_of}
use Rattle.work_layout.specs.Report.{report_on, report_bytes}
use Rattle.answers.specs.Returned.{returned}
use Rattle.pair_calls.specs.PairAnswered.{pair_refused, pair_ready, pair_room, pair_given}
use Rattle.compare_call.specs.ComparedLaws.{compared_pair}
use Rattle.compare_call.proofs.compare_within.Goals as goal

pub returns-in-Err : goal.returns-in-Err
returns-in-Err c =
    let pair = c.begin_pair-set in
    let args = c.args in
    compared_pair (limits_of args.caps) args.sheet.now args.left args.right
    (pair_refused report_bytes returned report_on (limits_of args.caps) args.sheet.now args.left args.right args.work.now args.answer.now
    pair.new.work pair.result pair.ensures c.in-Err.is)

pub report_set-answered-requires : goal.report_set-answered-requires
report_set-answered-requires c =
    let pair = c.begin_pair-set in
    let args = c.args in
    pair_ready report_bytes returned report_on (limits_of args.caps) args.sheet.now args.left args.right args.work.now args.answer.now
    pair.new.work pair.result pair.ensures c.in-Ok.is

pub returns : goal.returns
returns c =
    let pair = c.begin_pair-set in
    let report = c.report_set-answered in
    let clear = c.clear_work in
    let args = c.args in
    compared_pair (limits_of args.caps) args.sheet.now args.left args.right
    (pair_given report_bytes returned report_on (limits_of args.caps) args.sheet.now args.left args.right args.work.now args.answer.now
    pair.new.work pair.result pair.ensures c.in-Ok.is
    report.ensures clear.ensures)
