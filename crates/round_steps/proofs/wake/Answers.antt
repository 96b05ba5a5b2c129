-- `wake` unites the sets of the listed members whose class is new.
use mathlib.Core.Logic.{⊎_elim}
use Rattle.round_steps.specs.AwakeMembers.{woken_pass, woken_more}
use native.Mathlib.Omega.{arith}
use Rattle.round_steps.proofs.wake.Goals as goal

pub loop-j-preserved : goal.loop-j-preserved
loop-j-preserved c =
    let g = c.args in
    let l = c.loop-j in
    let k = c.class_at in ⊎_elim (λ z. rw z.awake-is
    (woken_more g.work.now g.sets.now g.width g.old g.list.now l.j l.awake z.unite.new.into l.invariant z.unite.ensures))
    (λ z. rw z.awake-is
    (woken_pass g.work.now g.sets.now g.width g.old g.list.now l.j l.awake l.invariant
    (omega (arith, k.ensures, z.if-old-class_at.false)))) c.if-old-class_at.branch-raw
