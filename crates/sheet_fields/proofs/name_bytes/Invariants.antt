-- The bytes before p may stand in a name, so what is left to read decides.
use Rattle.std.proofs.Common.{◌≡◌, ◌-◌}
use Rattle.sheet_laws.specs.SheetLimits.{name_length}
use Rattle.sheet_laws.specs.Reading.{name_bytes}
use Rattle.sheet_fields.proofs.name_bytes.Given as goal

abbrev pub invariant-loop-p : goal.invariant-loop-p
invariant-loop-p l = name_bytes (l.end - l.p) l.s l.p ≡ name_bytes name_length l.s l.at
