-- `line_listed` goes through the list; a member that is ready stays ready while another one is worked out.
use lib.ListN.{get_or}
use Rattle.round_lines.specs.SetLinesFound.{set_lined_next, next_shape}
use native.Mathlib.Omega.{arith}
use mathlib.Core.Path.{refl}
use Rattle.round_lines.proofs.line_listed.Goals as goal

pub watch_member-requires : goal.watch_member-requires
watch_member-requires c =
    let g = c.args in
    let l = c.loop-j in
    let h = c.requires.2 l.j c.loop-j-test.true in
    let m = c.line_member in (
      next_shape g.n l.work l.invariant.shape (get_or g.list.now l.j 0) h m.new.work m.ensures,
      h,
      omega (arith, h, c.requires.3),
      c.requires.4,
      omega (arith, c.requires.5),
    )

pub loop-j-preserved : goal.loop-j-preserved
loop-j-preserved c =
    let g = c.args in
    let l = c.loop-j in
    let h = c.requires.2 l.j c.loop-j-test.true in
    let m = c.line_member in
    let t = c.watch_member in
    set_lined_next g.work.now g.sets.now g.width g.n g.list.now l.j l.work l.sets l.invariant
    (get_or g.list.now l.j 0) refl h m.new.work m.ensures t.new.sets t.ensures
