-- After i of the numbers are put in, the first n + i are the old ones with these i in their places, in ascending order.
use lib.ListN.{get_or, take}
use borrow.Author.Rules.{rules}
use native.Mathlib.Omega.{arith}
use Prim.Native.Nat.{◌+◌}
use Rattle.packing.specs.SortingLaws.{inserted_next}
use Rattle.node_opening.specs.CarriedInsertion.{inserted_first}
use Rattle.threads_beside.proofs.insert_from.Goals as goal

pub loop-i-preserved : goal.loop-i-preserved
loop-i-preserved c = let a = c.args in
    let l = c.loop-i in
    let next = inserted_next (take a.n a.old) l.threads c.insert-longer.result a.opened.now a.n l.i a.from
    (omega arith) l.invariant.2 l.invariant.3
    (inserted_first l.threads c.insert-longer.result (a.n + l.i) (get_or a.opened.now (a.from + l.i) 0) (omega arith) c.insert-longer.ensures) in
    (omega arith, search rules, next.0, next.1)
