-- The count, and each turn one step more: after i of them the count and the first i steps stand in the slice.
use mathlib.Core.List.{List}
use mathlib.Core.Path.{◌≡◌, subst}
use Prim.Native.Nat.{ℕ}
use native.Mathlib.Omega.{arith}
use borrow.Author.Rules.{rules}
use Rattle.report_records.specs.StoredText.{stored_length, stored_then}
use Rattle.report_records.specs.Slices.{Stored}
use Rattle.report_bytes.specs.BytesStored.{joined, joined_room, stored_none, stored_next, stored_front}
use Rattle.report_records.specs.RecordLayout.{step_bytes_at}
use Rattle.report_bytes.proofs.put_trail.Goals as goal

pub loop-i-init : goal.loop-i-init
loop-i-init c =
    let count = c.put_word-at in
    let w : List ℕ = c.args.work.now in
    stored_none (step_bytes_at w) count.new.out count.result

pub put_step-at-requires : goal.put_step-at-requires
put_step-at-requires c =
    let count = c.put_word-at.ensures in
    let i : ℕ = c.loop-i.i in
    let s = c.loop-i.invariant in (
      c.requires.0.long,
      omega (arith, c.requires.0.few),
      c.requires.0.sides i (search rules),
      omega (
        arith,
        joined_room (step_bytes_at c.args.work.now) i c.args.k (search rules),
        s.place,
        stored_length s,
        count.place,
        stored_length count,
        c.requires.1,
      ),
    )

pub loop-i-preserved : goal.loop-i-preserved
loop-i-preserved c =
    let w : List ℕ = c.args.work.now in
    stored_next (step_bytes_at w) c.loop-i.i c.loop-i.invariant c.put_step-at.ensures

pub returns : goal.returns
returns c =
    let w : List ℕ = c.args.work.now in
    let count = c.put_word-at in
    let at-loop = c.loop-i in
    let e : at-loop.i ≡ c.args.k = omega arith in
    let s =
    subst (λ (j : ℕ). Stored count.new.out count.result (joined (step_bytes_at w) j) at-loop.out at-loop.at) e at-loop.invariant in
    stored_front (stored_then count.ensures s) c.requires.1
