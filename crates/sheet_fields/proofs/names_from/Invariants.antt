-- After i names what is left to read gives what the whole gives.
use Rattle.std.proofs.Common.{◌≡◌, ◌-◌, ◌≤◌, length}
use Rattle.sheet_laws.specs.Reading.{names_from}
use Rattle.sheet_fields.proofs.names_from.Given as goal

abbrev pub invariant-loop-i : goal.invariant-loop-i
invariant-loop-i l = (l.next ≤ length l.s) × (names_from (l.n - l.i) l.n l.s l.next ≡ names_from l.n l.n l.s l.at)
