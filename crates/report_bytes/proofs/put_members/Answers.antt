-- The count, and each turn one member more: after i of them the count and the first i members stand in the slice.
use mathlib.Core.List.{List}
use Prim.Native.Nat.{ℕ}
use native.Mathlib.Omega.{arith}
use borrow.Author.Rules.{rules}
use Rattle.report_records.specs.StoredText.{stored_length}
use Rattle.report_bytes.specs.BytesStored.{joined_room, stored_none, stored_next}
use Rattle.report_records.specs.RecordLayout.{member_bytes_at}
use Rattle.report_bytes.proofs.put_members.Goals as goal

pub loop-i-init : goal.loop-i-init
loop-i-init c =
    let count = c.put_word-at in
    let w : List ℕ = c.args.work.now in
    stored_none (member_bytes_at w) count.new.out count.result

pub put_member-at-requires : goal.put_member-at-requires
put_member-at-requires c =
    let count = c.put_word-at.ensures in
    let i : ℕ = c.loop-i.i in
    let s = c.loop-i.invariant in (
      c.requires.0.long,
      omega (arith, c.requires.0.few),
      c.requires.0.packed i (search rules),
      omega (
        arith,
        joined_room (member_bytes_at c.args.work.now) i c.args.n (search rules),
        s.place,
        stored_length s,
        count.place,
        stored_length count,
        c.requires.1,
      ),
    )

pub loop-i-preserved : goal.loop-i-preserved
loop-i-preserved c =
    let w : List ℕ = c.args.work.now in
    stored_next (member_bytes_at w) c.loop-i.i c.loop-i.invariant c.put_member-at.ensures
