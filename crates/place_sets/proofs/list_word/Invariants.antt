-- `list_word` goes from the lowest digit of the word up: what is listed is below each digit that is left.
use Prim.Native.Nat.{◌^◌, ◌≤◌, ◌<◌}
use mathlib.Core.Path.{◌≡◌}
use lib.ListN.{length}
use Rattle.place_sets.specs.Listing.{Partly}
use Rattle.place_sets.proofs.list_word.Given as goal

abbrev pub invariant-loop-rest : goal.invariant-loop-rest
invariant-loop-rest l = (l.rest < 2 ^ 64) × (length l.list ≡ length l.initial.list) × (l.from ≤ l.a) × Partly l.set l.n l.k l.rest l.initial.list l.list l.a

abbrev pub decreases-loop-rest : goal.decreases-loop-rest
decreases-loop-rest l = l.rest
