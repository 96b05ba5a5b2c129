-- What the frame refuses is handed up, and leaves the answer slice as it is; over the set that it leaves the grouping is made, and then
-- the work slice is cleared.
use borrow.Author.Rules.{rules}
use Rattle.call_frame.specs.FoundSet.{limits_of}
use Rattle.all_call.specs.ComparedAllLaws.{all_call_refused, all_call_ready, all_call_room, all_call_given}
use Rattle.all_call.proofs.compare_all_within.Goals as goal

pub returns-in-Err : goal.returns-in-Err
returns-in-Err c =
    let args = c.args in
    let all = c.begin_all-set in
    all_call_refused (limits_of args.caps) args.sheet.now args.work.now args.answer.now all.new.work all.result all.ensures
    c.in-Err.is

pub group_set-answered-requires : goal.group_set-answered-requires
group_set-answered-requires c =
    let args = c.args in
    let all = c.begin_all-set in
    all_call_ready (limits_of args.caps) args.sheet.now args.work.now args.answer.now all.new.work all.result all.ensures
    c.in-Ok.is

pub returns : goal.returns
returns c =
    let args = c.args in
    let all = c.begin_all-set in
    all_call_given (limits_of args.caps) args.sheet.now args.work.now args.answer.now all.new.work all.result all.ensures
    c.in-Ok.is c.group_set-answered.ensures c.clear_work.ensures
