-- `split_member` compares with the chosen members of the class and of its new parts: those stand for all members with their lines.
use lib.ListN.{length-set}
use Rattle.class_splits.specs.MemberSplits.{ready_class, ready_count, ready_lines, ready_own, read_room, split_joins}
use native.Mathlib.Omega.{arith}
use Rattle.class_splits.proofs.split_member.Goals as goal

pub bounds-work-c : goal.bounds-work-c
bounds-work-c c = let R = c.requires.0 in omega
    (arith, c.class_at-c.ensures, ready_class R, ready_count R, R.long)

pub part_of-k-requires : goal.part_of-k-requires
part_of-k-requires c =
    let R = c.requires.0 in
    (R.more, ready_count R, ready_own R, ready_lines R, R.long)

pub overflow_cast-work : goal.overflow_cast-work
overflow_cast-work c = omega (arith, c.part_of-k.ensures.within, ready_count c.requires.0)

pub returns-then-k-count : goal.returns-then-k-count
returns-then-k-count c =
    let g = c.args in
    let k = c.class_at-c in
    let s = c.same_lines in
    let p = c.part_of-k in
    split_joins g.work.now g.round g.i g.old g.count k.result k.ensures s.result s.ensures
    c.if-same_lines.false
    p.result p.ensures c.if-k-count.true

pub put_class-requires : goal.put_class-requires
put_class-requires c =
    let g = c.args in
    let R = c.requires.0 in
    let k = c.class_at-c in
    let s = c.same_lines in (
      read_room g.work.now g.round g.i g.old g.count k.result k.ensures s.result s.ensures R
          c.if-same_lines.false,
      omega (arith, k.ensures, ready_class R, ready_count R),
      c.requires.1,
      omega (arith, R.few, R.inside),
      simp length-set R.long,
    )
