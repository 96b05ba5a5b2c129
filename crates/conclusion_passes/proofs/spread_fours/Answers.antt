-- The blocks before the q-th are spread, and those from it on are as they were.
use native.Mathlib.Omega.{arith}
use mathlib.Core.Path.{refl}
use Rattle.conclusion_passes.specs.GatheredLaws.{blocks_next, four_united}
use Rattle.conclusion_passes.proofs.spread_fours.Goals as goal

pub loop-q-preserved : goal.loop-q-preserved
loop-q-preserved c =
    let l = c.loop-q in
    let t = c.loop-q-test.true in
    blocks_next l.invariant t (four_united l.q l.work (omega (arith, c.requires.1, l.invariant.spread.long, t)) _ refl)
