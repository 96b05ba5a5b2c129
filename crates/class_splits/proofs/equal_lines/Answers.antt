-- `equal_lines` compares the numbers of lines first: members with the same lines have as many.
use Rattle.work_layout.specs.TestLaws.{true_false}
use mathlib.Core.Bool.{false}
use Rattle.class_splits.specs.LineTests.{lines_counted}
use mathlib.Core.Path.{refl}
use Rattle.class_splits.proofs.equal_lines.Goals as goal

pub returns-then-k-work : goal.returns-then-k-work
returns-then-k-work c =
    let g = c.args in
    record {
      holds = λ h. true_false false h refl;
      not_so = λ h e. c.if-k-work.true (lines_counted g.work.now g.i g.j c.requires.2 c.requires.0 c.requires.1 e);
    }
