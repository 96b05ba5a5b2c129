-- The closures from the set on stand in the table, below it what was gathered, and nothing behind them has changed.
use borrow.Author.Rules.{rules}
use native.Mathlib.Omega.{arith}
use Prim.Native.Nat.{◌+◌, ◌-◌, ◌^◌, ◌≤◌, ◌<◌}
use mathlib.Core.Path.{◌≡◌, ◌∙◌}
use lib.ListN.{get_or, length-set}
use lib.Bits.{bit_or}
use Rattle.closure_table.specs.Frames.{outside_drop}
use Rattle.closure_table.specs.RuleTable.{rules_in}
use Rattle.closure_table.specs.ClosureTable.{Closures, GrownBy}
use Rattle.closure_table.specs.FillLaws.{closures_down, drop_put_closure}
use Rattle.conclusion_passes.specs.GatheredConclusions.{ConclusionsGathered}
use Rattle.conclusion_passes.specs.GatheredLaws.{entry_grown, entry_fits, gathered_put}
use Rattle.closure_table.specs.SheetLimits.{max_facts}
use Rattle.closure_filling.proofs.fill_by_passes.Goals as goal

pub bounds-work-t : goal.bounds-work-t
bounds-work-t c =
    let l = c.loop-set in
    let a = c.args in
    let few : 2 ^ a.facts ≤ 2 ^ max_facts = omega arith in
    let s = l.set - 1 in
    let fits : bit_or s (get_or l.work s 0) < 2 ^ a.facts =
    entry_fits (rules_in a.rules.now a.n) a.facts (l.invariant.3.at s (omega arith)) (omega arith) c.requires.3 in
    simp length-set (omega (arith, c.gather.ensures.1.long))

pub loop-set-preserved : goal.loop-set-preserved
loop-set-preserved c =
    let l = c.loop-set in
    let a = c.args in
    let few : 2 ^ a.facts ≤ 2 ^ max_facts = omega arith in
    let s = l.set - 1 in
    let fits : bit_or s (get_or l.work s 0) < 2 ^ a.facts =
    entry_fits (rules_in a.rules.now a.n) a.facts (l.invariant.3.at s (omega arith)) (omega arith) c.requires.3 in
    let rs = rules_in a.rules.now a.n in
    let e : s + 1 ≡ l.set = omega arith in
    let t = bit_or s (get_or l.work s 0) in
    let done : Closures rs (s + 1) (2 ^ a.facts) l.work = rw e l.invariant.2 in
    let left : ConclusionsGathered rs a.facts (s + 1) l.work = rw e l.invariant.3 in
    let g : GrownBy rs s t = entry_grown a.facts (left.at s (omega arith)) (omega arith) in (
      search rules,
      simp length-set l.invariant.1,
      closures_down rs l.work s t (2 ^ a.facts) (omega arith) (omega arith) g fits done,
      gathered_put a.facts l.work s t left,
      drop_put_closure l.work s t (2 ^ a.facts) (omega arith) ∙ l.invariant.4,
    )

pub returns : goal.returns
returns c =
    let e : c.loop-set.set ≡ 0 = omega arith in
    let o = c.gather.ensures.1 in
    (rw e at c.loop-set.invariant.2, c.loop-set.invariant.4 ∙ outside_drop o)
