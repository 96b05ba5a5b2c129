-- The sets that include one of the first i numbers are cleared; the numbers stand behind the digits.
use borrow.Author.Rules.{rules}
use native.Mathlib.Omega.{arith}
use Rattle.label_walk.specs.ClearedSets.{cleared_next}
use Rattle.label_walk.proofs.clear_found.Goals as goal

pub loop-i-preserved : goal.loop-i-preserved
loop-i-preserved c =
    let g = c.args in
    let l = c.loop-i in (
      search rules,
      cleared_next g.left g.words g.at g.work.now l.i l.work c.clear_sets.new.work (search rules) (search rules)
          (omega (arith, l.invariant.1.same.long)) l.invariant.1 c.clear_sets.ensures,
    )
