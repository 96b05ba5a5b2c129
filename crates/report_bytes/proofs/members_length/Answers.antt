-- Each turn adds the length of one member to that of the count.
use mathlib.Core.List.{List}
use mathlib.Core.Path.{ap}
use Prim.Native.Nat.{ℕ}
use native.Mathlib.Omega.{arith}
use lib.ListN.{length}
use borrow.Author.Rules.{rules}
use Rattle.report_records.specs.PackingLaws.{packed_count}
use Rattle.report_records.specs.RecordLayout.{PackedAt, member_bytes_at}
use Rattle.report_records.specs.RecordsStored.{member_length_lem}
use Rattle.report_bytes.specs.BytesStored.{joined_none, joined_length}
use Rattle.report_bytes.proofs.members_length.Goals as goal

pub loop-place-init : goal.loop-place-init
loop-place-init c = (omega (arith, ap length (joined_none (member_bytes_at c.args.work.now))), search rules)

pub loop-place-preserved : goal.loop-place-preserved
loop-place-preserved c =
    let w : List ℕ = c.args.work.now in
    let i : ℕ = c.loop-place.place in
    let p : PackedAt w i = c.requires.packed i (search rules) in (omega (arith, joined_length (member_bytes_at w) i, member_length_lem w i p), omega (arith, packed_count p))
