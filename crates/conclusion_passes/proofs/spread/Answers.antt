-- The blocks before the q-th are spread, and those from it on are as they were.
use native.Mathlib.Omega.{arith}
use Prim.Native.Nat.{◌*◌, ◌^◌}
use mathlib.Core.Path.{◌≡◌}
use Rattle.conclusion_passes.specs.GatheredConclusions.{United}
use Rattle.conclusion_passes.specs.GatheredLaws.{blocks_next}
use Rattle.conclusion_passes.proofs.spread.Goals as goal

pub loop-q-preserved : goal.loop-q-preserved
loop-q-preserved c =
    let a = c.args in
    let l = c.loop-q in
    let e : c.sets_of-half.result ≡ 2 ^ a.fact = omega arith in
    let u : United (2 * l.q * 2 ^ a.fact) (2 ^ a.fact) (2 ^ a.fact) l.work c.spread_block.new.work =
    rw e at c.spread_block.ensures in
    blocks_next l.invariant c.loop-q-test.true u
