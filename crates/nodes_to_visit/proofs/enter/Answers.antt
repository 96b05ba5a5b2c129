-- Nothing is stored where the entry was found; else the entries from its place on are moved up and it is stored there.
use lib.ListN.{take}
use native.Mathlib.Omega.{arith}
use Rattle.threads_beside.specs.Ranks.{rank_of}
use Rattle.threads_beside.specs.NodeMoves.{NodeBeside}
use Rattle.nodes_to_visit.specs.EntryPlaces.{entered_there, entered_put}
use Rattle.nodes_to_visit.proofs.enter.Goals as goal

pub returns-in-Ok : goal.returns-in-Ok
returns-in-Ok c =
    let g = c.args in
    let y = c.numbers-x in
    let x : NodeBeside = record { node = g.node; threads = take g.e.count g.e.threads } in
    entered_there rank_of g.work.now g.top g.n c.in-Ok.field-0 x y.result y.ensures.1 y.ensures.0 c.in-Ok.ensures

pub returns-in-Err : goal.returns-in-Err
returns-in-Err c =
    let g = c.args in
    let y = c.numbers-x in
    let r = c.shift_up in
    let x : NodeBeside = record { node = g.node; threads = take g.e.count g.e.threads } in
    rw c.put_three.ensures
    (entered_put rank_of g.work.now g.top g.n c.in-Err.spot x y.result y.ensures.1 y.ensures.0
    r.new.work c.in-Err.ensures (omega arith) (omega arith) c.requires.3 r.ensures)
