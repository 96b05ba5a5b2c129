-- What the frame refuses is handed up, and leaves the answer slice as it is; over the set that it leaves the rounds are made, and then
-- the work slice is cleared.
use borrow.Author.Rules.{rules}
use Rattle.call_frame.specs.FoundSet.{limits_of}
use Rattle.after_rounds.specs.AfterRounds.{after_bytes}
use Rattle.after_rounds.specs.AfterRoundsRead.{afters_returned}
use Rattle.pair_calls.specs.PairAnswered.{pair_refused, pair_ready, pair_room, pair_given}
use Rattle.rounds_call.specs.ComparedRoundsLaws.{made_after, rounds_pair}
use Rattle.rounds_call.proofs.compare_rounds_within.Goals as goal

pub returns-in-Err : goal.returns-in-Err
returns-in-Err c =
    let pair = c.begin_pair-set in
    let args = c.args in
    rounds_pair (limits_of args.caps) args.sheet.now args.left args.right args.rounds
    (pair_refused after_bytes afters_returned (made_after args.rounds) (limits_of args.caps) args.sheet.now args.left args.right args.work.now args.answer.now
    pair.new.work pair.result pair.ensures c.in-Err.is)

pub round_set-answered-requires : goal.round_set-answered-requires
round_set-answered-requires c =
    let pair = c.begin_pair-set in
    let args = c.args in
    pair_ready after_bytes afters_returned (made_after args.rounds) (limits_of args.caps) args.sheet.now args.left args.right args.work.now args.answer.now
    pair.new.work pair.result pair.ensures c.in-Ok.is

pub returns : goal.returns
returns c =
    let pair = c.begin_pair-set in
    let round = c.round_set-answered in
    let clear = c.clear_work in
    let args = c.args in
    rounds_pair (limits_of args.caps) args.sheet.now args.left args.right args.rounds
    (pair_given after_bytes afters_returned (made_after args.rounds) (limits_of args.caps) args.sheet.now args.left args.right args.work.now args.answer.now
    pair.new.work pair.result pair.ensures c.in-Ok.is
    round.ensures clear.ensures)
