-- After i turns the number is that of the first i digits.
use Rattle.std.proofs.Common.{◌≡◌, ◌<◌, ◌^◌, take}
use Rattle.printed_lines.specs.Decimal.{value}
use Rattle.case_lines.proofs.value.Given as goal

abbrev pub invariant-loop-b : goal.invariant-loop-b
invariant-loop-b l = (l.n ≡ value (take l.b-index l.s)) × (l.n < 10 ^ l.b-index)
