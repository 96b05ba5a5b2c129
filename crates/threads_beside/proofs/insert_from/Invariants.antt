-- After i of the numbers are put in, the first n + i are the old ones with these i in their places, in ascending order.
use lib.ListN.{length, take, drop}
use Prim.Native.Nat.{◌+◌, ◌≤◌}
use mathlib.Core.Path.{◌≡◌}
use Rattle.packing.specs.Lists.{NotFalling}
use Rattle.packing.specs.SortingLaws.{insert_all}
use Rattle.threads_beside.proofs.insert_from.Given as goal

abbrev pub invariant-loop-i : goal.invariant-loop-i
invariant-loop-i l =
    (l.i ≤ l.more) × (length l.threads ≡ 8) × NotFalling (take (l.n + l.i) l.threads)
    × (take (l.n + l.i) l.threads ≡ insert_all (take l.n l.initial.threads) (take l.i (drop l.from l.opened)))
