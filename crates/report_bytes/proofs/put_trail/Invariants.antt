-- The count, and each turn one step more: after i of them the count and the first i steps stand in the slice.
use Rattle.report_records.specs.Slices.{Stored}
use Rattle.report_bytes.specs.BytesStored.{joined}
use Rattle.report_records.specs.RecordLayout.{step_bytes_at}
use Rattle.report_bytes.proofs.put_trail.Given as goal

abbrev pub invariant-loop-i : goal.invariant-loop-i
invariant-loop-i l = Stored l.initial.out l.initial.at (joined (step_bytes_at l.work) l.i) l.out l.at
