-- Each node is entered with the threads that stood beside the either, and what the two give are the moves of the either.
use native.Mathlib.Omega.{arith}
use Rattle.threads_beside.specs.ThreadsBeside.{node_beside}
use Rattle.walk_state.specs.PushedInWalk.{entered_few, entered_long, entered_packed}
use Rattle.both_either_visits.specs.StoredPartLaws.{either_turned}
use Rattle.both_either_visits.proofs.visit_either.Goals as goal

pub enter-two-requires : goal.enter-two-requires
enter-two-requires c =
    let x = c.enter-one in
    let h = c.requires in (
      omega (arith, h.2.lower, h.4, entered_few x.ensures),
      omega (arith, h.0, entered_long x.ensures),
      h.1,
      entered_packed h.5 x.ensures,
    )

pub returns : goal.returns
returns c =
    let a = c.args in
    let h = c.requires in
    let x = c.enter-one in
    let y = c.enter-two in
    let n = c.rank_of-n in
    either_turned a.p a.q n.result x.result y.result a.work.now x.new.work y.new.work a.s (node_beside a.e)
    n.ensures h.2.lower h.3.lower h.4 x.ensures y.ensures
