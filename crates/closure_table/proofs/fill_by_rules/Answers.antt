-- The closures from s on stand in the table, and nothing behind them has changed.
use mathlib.Core.Path.{◌≡◌, ◌∙◌}
use Prim.Native.Nat.{◌+◌, ◌-◌, ◌^◌, ◌<◌}
use native.Mathlib.Omega.{arith}
use lib.ListN.{length-set}
use borrow.Author.Rules.{rules}
use Rattle.set_closure.specs.RuleTable.{rules_in}
use Rattle.closure_table.specs.ClosureTable.{Closures}
use Rattle.closure_table.specs.FillLaws.{grown_lt, closures_down, drop_put_closure}
use Rattle.closure_table.proofs.fill_by_rules.Goals as goal

pub bounds-work-t : goal.bounds-work-t
bounds-work-t c =
    let a = c.args in
    let l = c.loop-s in
    let fits : c.grown-t.result < 2 ^ a.facts =
    grown_lt (rules_in a.rules.now a.n) a.facts c.grown-t.ensures (omega arith) c.requires.3 in
    simp length-set (omega (arith, fits))

pub loop-s-preserved : goal.loop-s-preserved
loop-s-preserved c =
    let a = c.args in
    let l = c.loop-s in
    let rs = rules_in a.rules.now a.n in
    let s = l.s - 1 in
    let e : s + 1 ≡ l.s = omega arith in
    let t = c.grown-t.result in
    let g = c.grown-t.ensures in
    let fits : t < 2 ^ a.facts = grown_lt rs a.facts g (omega arith) c.requires.3 in
    let done : Closures rs (s + 1) (2 ^ a.facts) l.work = rw e l.invariant.2 in (
      search rules,
      simp length-set l.invariant.1,
      closures_down rs l.work s t (2 ^ a.facts) (omega arith) (omega arith) g fits done,
      drop_put_closure l.work s t (2 ^ a.facts) (omega arith) ∙ l.invariant.3,
    )
