-- `add_labels`: each label of the moves before place j was added; a move that is not the first with its label has that of the one
-- before it.
use mathlib.Core.Path.{subst, ◌≡◌}
use Prim.Native.Nat.{ℕ}
use native.Mathlib.Omega.{arith}
use Rattle.third_rule.specs.ThirdRule.{AddedOn, ByEarlier}
use Rattle.third_rule.specs.ThirdRuleLaws.{earlier_next, all_added, over_then}
use Rattle.third_rule.proofs.add_labels.Goals as goal

pub returns-in_err-run : goal.returns-in_err-run
returns-in_err-run c = rw c.from_residual.ensures (over_then c.requires c.loop-j.invariant.kept c.in_err-run.ensures)

pub loop-j-preserved : goal.loop-j-preserved
loop-j-preserved c =
    let g = c.args in
    let l = c.loop-j in
    earlier_next g.b g.work.now g.s c.requires l.j l.work l.run c.add_label_of.new.work c.in_ok-run.run'
    (omega arith) (omega arith) l.invariant c.in_ok-run.ensures

pub returns : goal.returns
returns c =
    let g = c.args in
    let l = c.loop-j in
    let e : l.j ≡ g.s.moves = omega (arith, c.requires.collecting.room.1) in
    all_added g.b g.work.now g.s c.requires l.work l.run
    (subst (λ (j : ℕ). AddedOn (ByEarlier g.work.now g.b.first g.s j) g.b g.work.now g.s l.work l.run) e l.invariant)
