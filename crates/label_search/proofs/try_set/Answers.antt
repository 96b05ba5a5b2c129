-- The two tests are the definition's, in its order.
use mathlib.Core.Path.{sym, ◌∙◌}
use native.Mathlib.Omega.{arith}
use lib.ListN.{take, drop, get_or}
use Prim.Native.Nat.{◌-◌}
use Rattle.label_search.specs.FoundLabelLaws.{next_covered, next_found, inside_none, inside_some}
use Rattle.label_search.proofs.try_set.Goals as goal

pub returns-in-Some : goal.returns-in-Some
returns-in-Some c =
    let x = c.args in
    let found = take x.n (drop x.at x.work.now) in
    let q = sym c.passes.ensures ∙ c.if-not-passes.false in
    let h = c.in-Some.ensures in
    let some = inside_some x.work.now x.at x.n (get_or x.work.now (x.v - x.d) 0) c.in-Some.i h (omega arith) in
    (sym (next_covered x.work.now x.d x.c x.v found q some), h.0, omega (arith, h.1))

pub returns-in-None : goal.returns-in-None
returns-in-None c =
    let x = c.args in
    let found = take x.n (drop x.at x.work.now) in
    let q = sym c.passes.ensures ∙ c.if-not-passes.false in
    let none = inside_none x.work.now x.at x.n (get_or x.work.now (x.v - x.d) 0) c.in-None.ensures in
    (sym (next_found x.work.now x.d x.c x.v found q none), omega arith, omega arith)
