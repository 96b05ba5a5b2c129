-- The first w words are copied.
use Prim.Native.Nat.{◌+◌, ◌≤◌}
use lib.ListN.{get_or}
use lib.Bits.{bit_and}
use Rattle.set_digits.specs.WordDigits.{places_between}
use Rattle.set_digits.specs.FilledWords.{Filled}
use Rattle.set_digits.proofs.copy_between.Given as goal

abbrev pub invariant-loop-w : goal.invariant-loop-w
invariant-loop-w l = (l.w ≤ l.words) × Filled l.to l.w l.initial.work l.work (λ i. bit_and (get_or l.initial.work (l.from + i) 0) (places_between l.with l.asked l.high l.other i))
