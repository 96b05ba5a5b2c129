-- Each turn of `place` keeps the place between the two ends and brings these closer.
use Prim.Native.Nat.{◌+◌, ◌-◌, ◌/◌}
use native.Mathlib.Omega.{arith}
use Rattle.packing.specs.Packing.{stands_for}
use Rattle.member_table.specs.MemberSearch.{found_side, low_side, high_side}
use Rattle.member_table.proofs.place.Goals as goal

pub loop-low-preserved-in-Less : goal.loop-low-preserved-in-Less
loop-low-preserved-in-Less c =
    let g = c.args in
    let l = c.loop-low in
    low_side g.work.now g.n (stands_for g.x) (l.low + (l.high - l.low) / 2) c.side.result c.side.ensures c.requires.0
    l.low l.high l.invariant (omega arith) (omega arith) c.in-Less.is

pub returns-in-Equal : goal.returns-in-Equal
returns-in-Equal c =
    let g = c.args in
    let l = c.loop-low in
    found_side g.work.now g.n (stands_for g.x) (l.low + (l.high - l.low) / 2) c.side.result c.side.ensures c.requires.0
    (omega arith) c.in-Equal.is

pub loop-low-preserved : goal.loop-low-preserved
loop-low-preserved c =
    let g = c.args in
    let l = c.loop-low in
    high_side g.work.now g.n (stands_for g.x) (l.low + (l.high - l.low) / 2) c.side.result c.side.ensures c.requires.0
    l.low l.high l.invariant (omega arith) (omega arith) c.in-Greater.is
