-- Some number of facts k is reached: the sets found with fewer facts are listed, and those that include one of them are no longer marked.
use Prim.Native.Nat.{ℕ, suc, ◌-◌, ◌≤◌}
use lib.ListN.{length}
use Rattle.label_walk.specs.FoundWalk.{marked_below, Walked}
use Rattle.label_walk.proofs.find_sets.Given as goal

abbrev pub invariant-loop-k : goal.invariant-loop-k
invariant-loop-k l = (k : ℕ) × (k ≤ suc l.facts) × Walked l.facts l.words l.left l.at l.initial.work k l.n l.work

abbrev pub decreases-loop-k : goal.decreases-loop-k
decreases-loop-k l = length (marked_below l.facts l.left l.initial.work (suc l.facts)) - l.n
