-- The first w words are turned.
use Prim.Native.Nat.{◌+◌, ◌≤◌}
use lib.ListN.{get_or}
use Rattle.search_laws.specs.FactsOutside.{outside}
use Rattle.set_digits.specs.FilledWords.{Filled}
use Rattle.set_digits.proofs.turn_within.Given as goal

abbrev pub invariant-loop-w : goal.invariant-loop-w
invariant-loop-w l = (l.w ≤ l.words) × Filled l.to l.w l.initial.work l.work (λ i. outside (get_or l.initial.work (l.to + i) 0) (get_or l.initial.work (l.from + i) 0))
