-- `round_set` has the classes of the round that was reached in the work slice, numbered by first member, before it measures and writes the
-- answer, and reads the verdict from them.
use native.Mathlib.Omega.{arith}
use borrow.Author.Rules.{rules}
use Rattle.start_classes.specs.StoredText.{stored_length}
use Rattle.separations.specs.ReportClasses.{rounds_number_ready}
use Rattle.two_starts.specs.TwoStarts.{starts_ready, rounds_ready}
use Rattle.set_rounds.specs.RoundMadeLaws.{round_outside, round_members, round_start, round_refused, round_given}
use Rattle.set_rounds.proofs.round_set.Goals as goal

pub refine_to-rounds-requires : goal.refine_to-rounds-requires
refine_to-rounds-requires c = rounds_ready c.requires

pub returns-then-answer-length : goal.returns-then-answer-length
returns-then-answer-length c =
    let r = c.refine_to-rounds.ensures in
    let args = c.args in
    rw c.at.ensures
    (round_refused r.0 r.1 c.number_classes.ensures args.p args.q args.answer.now c.members_length-length.result
    c.members_length-length.ensures c.if-answer-length.true)

pub class_of-left-requires : goal.class_of-left-requires
class_of-left-requires c =
    let r = c.refine_to-rounds.ensures in
    round_start r.0 r.1 c.number_classes.ensures c.requires.starts c.args.p c.requires.left_few
    c.requires.starts.left

pub class_of-right-requires : goal.class_of-right-requires
class_of-right-requires c =
    let r = c.refine_to-rounds.ensures in
    round_start r.0 r.1 c.number_classes.ensures c.requires.starts c.args.q c.requires.right_few
    c.requires.starts.right

pub returns : goal.returns
returns c =
    let r = c.refine_to-rounds.ensures in
    let args = c.args in
    rw c.verdict_in-verdict.ensures
    (round_given r.0 r.1 c.number_classes.ensures args.p args.q args.answer.now c.members_length-length.result
    c.members_length-length.ensures (omega (arith, c.if-answer-length.false)) c.put_members.ensures
    c.class_of-left.ensures c.class_of-right.ensures)
