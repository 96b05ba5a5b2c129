-- The members stand before the lent part and the trail at its start, so they stand one after the other in the slice.
use mathlib.Core.List.{List}
use Prim.Native.Nat.{ℕ}
use Rattle.report_bytes.specs.BytesStored.{lent_after}
use Rattle.report_bytes.specs.ReportLayout.{members_part, trail_part}
use Rattle.report_bytes.proofs.put_report.Goals as goal

pub returns : goal.returns
returns c =
    let w : List ℕ = c.args.work.now in
    let members = c.put_members-at in
    let trail = c.put_trail in
    lent_after c.args.out.now (members_part w c.args.n) members.new.out (trail_part w c.args.k)
    trail.new.out members.result members.ensures c.requires.1 trail.ensures
