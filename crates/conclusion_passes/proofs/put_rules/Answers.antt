-- The entries have the conclusions of the rules that were passed.
use borrow.Author.Rules.{rules}
use native.Mathlib.Omega.{arith}
use Prim.Native.Nat.{◌+◌, ◌*◌}
use Rattle.std.proofs.Common.{get_or, drop, replicate, ◌++◌, ◌≡◌}
use Rattle.std.proofs.lemmas.Grind.{common_steps}
use Rattle.closure_table.specs.Frames.{outside_same, outside_again}
use Rattle.conclusion_passes.specs.GatheredLaws.{gathered_none, gathered_rule, cleared_outside, put_outside}
use Rattle.conclusion_passes.proofs.put_rules.Goals as goal

pub loop-i-init : goal.loop-i-init
loop-i-init c =
    let a = c.args in
    let e : c.fill.new.self ++ drop a.size a.work.now ≡ replicate a.size 0 ++ drop a.size a.work.now = grind (arith, common_steps) in
    let o = cleared_outside a.size a.work.now (omega arith) in (
      search rules,
      rw e (omega (arith, o.long)),
      rw e (gathered_none a.rules.now a.size (drop a.size a.work.now)),
      outside_same 0 a.size _,
    )

pub loop-i-preserved : goal.loop-i-preserved
loop-i-preserved c =
    let a = c.args in
    let l = c.loop-i in
    let e = c.put_rule.ensures in
    let o = put_outside a.size (get_or a.rules.now (2 * l.i) 0) (get_or a.rules.now (2 * l.i + 1) 0) l.work in (
      search rules,
      rw e (omega (arith, o.long)),
      rw e (gathered_rule a.rules.now a.size l.work l.i l.invariant.1 l.invariant.2),
      rw e (outside_again l.invariant.3 o),
    )
