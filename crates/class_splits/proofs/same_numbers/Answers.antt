-- `same_numbers` goes on as long as the numbers at the places passed agree.
use Rattle.work_layout.specs.TestLaws.{true_false}
use mathlib.Core.Bool.{true, false}
use Rattle.class_splits.specs.LineTests.{AgreeBelow, agree_same, same_agree}
use mathlib.Core.Path.{subst, ◌≡◌, refl}
use native.Mathlib.Omega.{arith}
use Rattle.class_splits.proofs.same_numbers.Goals as goal

pub returns-then-work-a : goal.returns-then-work-a
returns-then-work-a c =
    let g = c.args in
    let l = c.loop-i in
    record {
      holds = λ h. true_false false h refl;
      not_so = λ h e. c.if-work-a.true (same_agree g.work.now g.a g.b g.k c.requires.0 c.requires.1 e l.i (omega arith));
    }

pub returns : goal.returns
returns c =
    let g = c.args in
    let l = c.loop-i in
    let e : l.i ≡ g.k = omega arith in
    record {
      holds = λ h. agree_same g.work.now g.a g.b g.k c.requires.0 c.requires.1
          (subst (AgreeBelow g.work.now g.a g.b) e l.invariant.1);
      not_so = λ h. true_false true refl h;
    }
