-- `report_set` has the classes of the result's round and the trail in the work slice before it measures and writes the report, and
-- reads both verdict and trail from the births of classes, before classes get the numbers of the report.
use Rattle.sheet_types.specs.HeldSheet.{configuration}
use Rattle.separations.specs.ApartClasses.{rounds_fall, places_fall}
use Rattle.two_starts.specs.TwoStarts.{starts_ready, rounds_ready}
use Rattle.set_report.specs.ReportMadeLaws.{rounds_follow, member_found, rounds_numbered, report_held, report_outside, made_short, made_reported}
use native.Mathlib.Omega.{arith}
use borrow.Author.Rules.{rules}
use Rattle.set_report.proofs.report_set.Goals as goal

pub refine-rounds-requires : goal.refine-rounds-requires
refine-rounds-requires c = rounds_ready c.requires

pub apart_at-apart-requires : goal.apart_at-apart-requires
apart_at-apart-requires c =
    let S = c.requires.starts in
    let H = c.refine-rounds.ensures.0.rounds_held c.requires.sheet c.requires.set (starts_ready S) in
    let i = member_found H (configuration c.args.p) S.left c.numbers.result c.find_member-left.result c.numbers.ensures
    c.find_member-left.ensures in
    let j = member_found H (configuration c.args.q) S.right c.numbers-2.result c.find_member-right.result
    c.numbers-2.ensures c.find_member-right.ensures in
    let few = H.ready.held.few.0 in (
      omega (arith, i.0),
      omega (arith, j.0),
      places_fall (rounds_fall H) c.find_member-left.result c.find_member-right.result i.0 j.0,
    )

pub trail-steps-requires : goal.trail-steps-requires
trail-steps-requires c =
    let S = c.requires.starts in
    let H = c.refine-rounds.ensures.0.rounds_held c.requires.sheet c.requires.set (starts_ready S) in
    let i = member_found H (configuration c.args.p) S.left c.numbers.result c.find_member-left.result c.numbers.ensures
    c.find_member-left.ensures in
    let j = member_found H (configuration c.args.q) S.right c.numbers-2.result c.find_member-right.result
    c.numbers-2.ensures c.find_member-right.ensures in
    (rounds_follow H (c.refine-rounds.ensures.1 c.requires.sheet c.requires.set (starts_ready S)), i.0, j.0)

pub number_classes-requires : goal.number_classes-requires
number_classes-requires c =
    let H = c.refine-rounds.ensures.0.rounds_held c.requires.sheet c.requires.set (starts_ready c.requires.starts) in
    rounds_numbered H c.trail-steps.ensures.outside

pub report_length-length-requires : goal.report_length-length-requires
report_length-length-requires c =
    report_held c.refine-rounds.ensures.0 c.trail-steps.ensures c.number_classes.ensures c.refine-rounds.ensures.1 c.requires.starts

pub returns-then-answer-length : goal.returns-then-answer-length
returns-then-answer-length c =
    rw c.at.ensures
    (made_short c.refine-rounds.ensures.0 c.refine-rounds.ensures.1 c.trail-steps.ensures c.number_classes.ensures c.args.p c.args.q c.numbers.result
    c.numbers-2.result c.numbers.ensures c.find_member-left.ensures c.numbers-2.ensures c.find_member-right.ensures
    c.report_length-length.result c.report_length-length.ensures c.args.answer.now
    c.if-answer-length.true)

pub put_report-requires : goal.put_report-requires
put_report-requires c = (
  report_held c.refine-rounds.ensures.0 c.trail-steps.ensures c.number_classes.ensures c.refine-rounds.ensures.1 c.requires.starts,
  omega (arith, c.report_length-length.ensures, c.if-answer-length.false),
)

pub returns : goal.returns
returns c =
    rw c.verdict_on.ensures
    (made_reported c.refine-rounds.ensures.0 c.refine-rounds.ensures.1 c.trail-steps.ensures c.number_classes.ensures c.args.p c.args.q
    c.numbers.result c.numbers-2.result c.numbers.ensures c.find_member-left.ensures c.numbers-2.ensures
    c.find_member-right.ensures c.report_length-length.result c.report_length-length.ensures c.args.answer.now
    (omega (arith, c.if-answer-length.false)) c.apart_at-apart.result c.apart_at-apart.ensures
    c.put_report.new.out c.put_report.ensures)
