-- Each turn stores the class of one start more: after i of them the classes of the first i starts stand in the slice.
use Rattle.report_records.specs.Slices.{Stored}
use Rattle.report_bytes.specs.BytesStored.{joined}
use Rattle.start_classes.specs.StartClasses.{start_bytes_at}
use Rattle.start_classes.proofs.put_starts.Given as goal

abbrev pub invariant-loop-i : goal.invariant-loop-i
invariant-loop-i l = Stored l.initial.out l.at (joined (start_bytes_at l.work l.n l.starts) l.i) l.out l.next
