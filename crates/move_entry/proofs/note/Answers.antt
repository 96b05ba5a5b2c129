-- `note` enters the target, which leaves the moves alone, and puts the number of label and id, which leaves the members alone.
use Rattle.packing.specs.Packing.{stands_for}
use Rattle.collected_moves.specs.LowestUnexplored.{lowest_of}
use Rattle.collected_moves.specs.EnteredMoveLaws.{entered_on, noted_on, no_room_move}
use native.Mathlib.Omega.{arith}
use mathlib.Core.Path.{refl}
use Rattle.move_entry.proofs.note.Goals as goal

pub enter_number-requires : goal.enter_number-requires
enter_number-requires c =
    let g = c.args in
    let e = c.in_ok-e in
    let p = c.requires.0 in
    let z = entered_on g.work.now c.enter_at.new.work g.first g.s g.l (stands_for g.x) e.e.id e.e.members e.e.at
    (lowest_of g.s e.e.members e.e.at) p e.ensures.0 e.ensures.1 refl in
    (omega (arith, p.room), omega (arith, p.room), omega (arith, p.caps, z.collecting.long), z.collecting.ascending)

pub returns-in_err-end : goal.returns-in_err-end
returns-in_err-end c =
    let g = c.args in
    let e = c.in_ok-e in
    rw c.from_residual-in_err-end.ensures
    (no_room_move g.work.now c.enter_at.new.work c.enter_number.new.work g.first g.s g.l g.label (stands_for g.x)
    e.e.id e.e.members e.e.at c.requires.0 e.ensures.0 e.ensures.1 c.in_err-end.ensures)

pub returns : goal.returns
returns c =
    let g = c.args in
    let e = c.in_ok-e in
    noted_on g.work.now c.enter_at.new.work c.enter_number.new.work g.first g.s g.l g.label (stands_for g.x)
    e.e.id e.e.members e.e.at c.lowest-low.result c.requires.0 e.ensures.0 e.ensures.1
    c.lowest-low.ensures c.in_ok-end.end c.in_ok-end.ensures
