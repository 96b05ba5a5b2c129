-- After a pass for each fact below b the entries have the conclusions of the premises that agree with the set from b on.
use borrow.Author.Rules.{rules}
use native.Mathlib.Omega.{arith}
use Prim.Native.Nat.{◌-◌, ◌*◌, ◌^◌}
use mathlib.Core.Path.{◌≡◌}
use Rattle.closure_table.specs.Frames.{outside_again}
use Rattle.conclusion_passes.specs.GatheredConclusions.{Spread}
use Rattle.conclusion_passes.specs.GatheredLaws.{gathered_next, spread_outside, blocks_of_lem}
use Rattle.closure_filling.proofs.gather.Goals as goal

pub spread_fact-requires : goal.spread_fact-requires
spread_fact-requires c =
    let a = c.args in
    let l = c.loop-fact in
    let e : c.sets_of-blocks.result ≡ 2 ^ (a.facts - l.fact - 1) = omega arith in
    let f : 2 * c.sets_of-blocks.result * 2 ^ l.fact ≡ 2 ^ a.facts = rw e (blocks_of_lem a.facts l.fact (omega arith)) in
    (search rules, search rules, omega (arith, l.invariant.2.long), omega arith)

pub loop-fact-preserved : goal.loop-fact-preserved
loop-fact-preserved c =
    let a = c.args in
    let l = c.loop-fact in
    let r = c.sets_of-blocks.result in
    let e : r ≡ 2 ^ (a.facts - l.fact - 1) = omega arith in
    let f : 2 * r * 2 ^ l.fact ≡ 2 ^ a.facts = rw e (blocks_of_lem a.facts l.fact (omega arith)) in
    let q = c.spread_fact in
    let p : Spread l.fact (2 ^ a.facts) l.work q.new.work = rw f at q.ensures in
    (search rules, gathered_next l.invariant.1 p, outside_again l.invariant.2 (spread_outside p))
