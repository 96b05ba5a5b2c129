-- `enter` finds the place of the configuration first; it stands there, or there is no room, or it is put in there.
use native.Mathlib.Omega.{arith}
use mathlib.Core.Path.{refl}
use Rattle.packing.specs.Packing.{stands_for}
use Rattle.member_table.specs.MemberEntered.{entered_old, entered_new, placed_apart}
use Rattle.member_table.proofs.enter.Goals as goal

pub returns-in-Ok : goal.returns-in-Ok
returns-in-Ok c =
    let g = c.args in
    rw c.id_in-id.ensures.0 (entered_old g.work.now g.n g.limit (stands_for g.x) c.in-Ok.at c.requires.0 c.requires.2 c.in-Ok.ensures)

pub returns-then-n-limit : goal.returns-then-n-limit
returns-then-n-limit c =
    let g = c.args in
    (c.if-n-limit.true, refl, placed_apart g.work.now g.n (stands_for g.x) c.in-Err.at c.requires.0 c.in-Err.ensures)

pub returns-else-n-limit : goal.returns-else-n-limit
returns-else-n-limit c =
    let g = c.args in
    let i = c.put_in in
    entered_new g.work.now i.new.work g.n c.in-Err.at g.x c.requires.0 i.ensures g.limit (omega arith) c.requires.3 c.requires.1 c.in-Err.ensures
