-- `note_member` enters the member where there is room; the moves stand elsewhere, and places below the lowest keep their members.
use Rattle.packing.specs.Packing.{stands_for}
use Rattle.collected_moves.specs.EnteredMoveLaws.{entered_on}
use Rattle.move_entry.proofs.note_member.Goals as goal

pub returns : goal.returns
returns c =
    let g = c.args in
    let e = c.in_ok-e in
    entered_on g.work.now c.enter_at.new.work g.first g.s g.l (stands_for g.x)
    e.e.id e.e.members e.e.at c.lowest-low.result c.requires.0 e.ensures.0 e.ensures.1 c.lowest-low.ensures
