-- `group_set` has the classes of the result's round in the work slice before it measures and writes the answer.
use mathlib.Core.Path.{◌∙◌}
use native.Mathlib.Omega.{arith}
use borrow.Author.Rules.{rules}
use Rattle.report_bytes.specs.BytesStored.{members_within}
use Rattle.start_classes.specs.StoredText.{stored_length}
use Rattle.separations.specs.ReportClasses.{rounds_number_ready}
use Rattle.set_grouping.specs.GroupingMadeLaws.{grouping_ready, grouping_length_lem, grouping_outside, grouping_members, grouping_starts, grouping_refused, grouping_given}
use Rattle.set_grouping.proofs.group_set.Goals as goal

pub overflow_add-length : goal.overflow_add-length
overflow_add-length c =
    let held = grouping_members c.refine-rounds.ensures.0 c.number_classes.ensures c.requires.all in
    search (
      rules,
      c.requires.count,
      c.members_length.ensures,
      members_within c.number_classes.new.work c.args.n held.packed,
      held.few,
    )

pub returns-then-answer-length : goal.returns-then-answer-length
returns-then-answer-length c =
    let args = c.args in
    rw c.at.ensures
    (grouping_refused c.refine-rounds.ensures.0 c.number_classes.ensures c.refine-rounds.ensures.1 args.starts args.k args.answer.now _
    (omega (arith, c.members_length.ensures, grouping_length_lem c.number_classes.new.work args.n args.starts args.k))
    c.if-answer-length.true)

pub put_starts-requires : goal.put_starts-requires
put_starts-requires c =
    let pre = c.requires in
    let stored = c.put_members-at.ensures in (
      grouping_starts c.refine-rounds.ensures.0 c.number_classes.ensures pre.all pre,
      omega (arith, c.members_length.ensures, c.if-answer-length.false, stored.place, stored_length stored),
    )

pub returns : goal.returns
returns c =
    let args = c.args in
    grouping_given c.refine-rounds.ensures.0 c.number_classes.ensures c.refine-rounds.ensures.1 args.starts args.k args.answer.now _
    (omega (arith, c.members_length.ensures, grouping_length_lem c.number_classes.new.work args.n args.starts args.k))
    (omega (arith, c.if-answer-length.false)) c.put_members-at.ensures c.put_starts.ensures
