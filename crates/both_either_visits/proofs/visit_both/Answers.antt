-- Each part is stored with the threads of the other beside it, or passed over where it gives no move: what is stored gives the both's moves.
use lib.ListN.{length, take, length-take}
use Rattle.threads_beside.specs.ThreadsBeside.{node_beside}
use Rattle.both_either_visits.specs.StoredPartLaws.{both_room, both_first_over, both_then}
use native.Mathlib.Omega.{arith}
use mathlib.Core.Path.{◌≡◌}
use Rattle.both_either_visits.proofs.visit_both.Goals as goal

pub returns-in_err-t : goal.returns-in_err-t
returns-in_err-t c =
    let a = c.args in
    let h = c.requires in
    let x = c.push_beside in
    rw c.from_residual.ensures
    (both_first_over a.table.now a.p a.q a.b a.work.now a.s (node_beside a.e)
    h.0 h.1 h.3 h.4 h.5 x.new.work x.result c.in_err-t.was x.ensures)

pub push_beside-requires-2 : goal.push_beside-requires-2
push_beside-requires-2 c =
    let a = c.args in
    let h = c.requires in
    let eight : length a.e.threads ≡ 8 = c.well_formed.1.1.1.1.1.0.1.1.1.1.0.1.0.1 in
    let n : length (take a.e.count a.e.threads) ≡ a.e.count = simp length-take (omega (arith, h.2)) in
    let few = h.1.threads.few in
    let x = c.push_beside in
    let m = both_room a.table.now a.p a.q a.b a.work.now a.s (node_beside a.e)
    h.0 h.1 h.3 h.4 h.5 x.new.work c.in_ok-t.t x.result c.in_ok-t.was x.ensures in (
      omega (arith, h.3.inside, h.6),
      omega (arith, h.4.inside, h.6),
      m.0,
      m.1,
      omega arith,
      h.0.collecting.caps.2,
      n,
      omega (arith, h.7, h.8),
      h.1.threads.ascending,
      m.2,
    )

pub returns : goal.returns
returns c =
    let a = c.args in
    let h = c.requires in
    let x = c.push_beside in
    let y = c.push_beside-2 in
    both_then a.table.now a.p a.q a.b a.work.now a.s (node_beside a.e)
    h.0 h.1 h.3 h.4 h.5 x.new.work c.in_ok-t.t x.result c.in_ok-t.was x.ensures y.new.work y.result y.ensures
