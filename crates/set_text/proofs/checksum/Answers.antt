-- After the members' numbers, turn i mixes in the moves of the member at place i.
use mathlib.Core.Path.{◌∙◌}
use Prim.Native.Nat.{◌*◌}
use Rattle.set_text.specs.SetText.{mix_all}
use Rattle.set_text.specs.SetTextLaws.{members_none, members_next}
use Rattle.work_layout.specs.WorkLayout.{members_at}
use Rattle.set_text.proofs.checksum.Goals as goal

pub loop-i-init : goal.loop-i-init
loop-i-init c =
    let args = c.args in
    c.mix_numbers-s.ensures ∙ members_none args.work.now (mix_all args.work.now members_at (3 * args.n) 0)

pub loop-i-preserved : goal.loop-i-preserved
loop-i-preserved c =
    let args = c.args in
    let at-loop = c.loop-i in
    rw (c.mix_moves-s.ensures, at-loop.invariant) (members_next args.work.now at-loop.i (mix_all args.work.now members_at (3 * args.n) 0))
