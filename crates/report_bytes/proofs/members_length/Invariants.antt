-- Each turn adds the length of one member to that of the count.
use mathlib.Core.Path.{◌≡◌}
use Prim.Native.Nat.{◌+◌, ◌*◌, ◌≤◌}
use lib.ListN.{length}
use Rattle.report_records.specs.RecordLayout.{member_bytes_at}
use Rattle.report_bytes.specs.BytesStored.{joined}
use Rattle.report_bytes.proofs.members_length.Given as goal

abbrev pub invariant-loop-place : goal.invariant-loop-place
invariant-loop-place l = (l.total ≡ 2 + length (joined (member_bytes_at l.work) l.place)) × (l.total ≤ 2 + 13 * l.place)
