-- As many numbers as were passed are 0.
use mathlib.Core.Path.{sym, ◌∙◌}
use Rattle.level_tables.specs.PairLaws.{zeroed_none, zeroed_next}
use Rattle.level_tables.proofs.pairs.clear.Goals as goal

pub loop-i-init : goal.loop-i-init
loop-i-init c = sym (zeroed_none c.args.w.now c.args.from)

pub loop-i-preserved : goal.loop-i-preserved
loop-i-preserved c =
    let a = c.args in
    c.put.ensures ∙ rw c.loop-i.invariant (sym (zeroed_next a.w.now a.from c.loop-i.i))
