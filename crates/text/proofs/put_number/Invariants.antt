-- Each turn stores the next digit to the right: the digits so far are those of the number over the power.
use Prim.Native.Nat.{◌/◌, ◌≤◌, max}
use Rattle.printed_lines.specs.Decimal.{decimal}
use Rattle.text.specs.Powers.{PowerOfTen}
use Rattle.text.specs.Slices.{Stored}
use Rattle.text.proofs.put_number.Given as goal

abbrev pub invariant-loop-q : goal.invariant-loop-q
invariant-loop-q l = (l.q ≤ max 1 l.n) × PowerOfTen l.q × Stored l.initial.out l.at (decimal (l.n / l.q)) l.out l.next

abbrev pub decreases-loop-q : goal.decreases-loop-q
decreases-loop-q l = l.q
