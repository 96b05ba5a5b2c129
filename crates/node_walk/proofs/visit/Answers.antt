-- The last node to visit is taken out and looked for among the marks; it may be passed over where it was marked before, else it is
-- visited by its kind.
use borrow.Author.Tests.{not-true}
use native.Mathlib.Omega.{arith}
use Prim.Native.Nat.{◌+◌, ◌-◌}
use mathlib.Core.Path.{◌≡◌}
use Rattle.threads_beside.specs.ThreadsBeside.{node_beside, node_for}
use Rattle.sheet_types.specs.NodeTable.{nodes_of}
use Rattle.sheet_types.specs.HeldSheet.{nodes_in}
use Rattle.node_walk.specs.NodeVisitLaws.{taken_walking, taken_passed, taken_fits, taken_low, taken_turned}
use Rattle.node_walk.proofs.visit.Goals as goal

pub returns-then-not-m : goal.returns-then-not-m
returns-then-not-m c =
    let a = c.args in
    let m = c.see-m in
    let x = c.pending_at-x in
    let n : a.s.top - 1 + 1 ≡ a.s.top = omega (arith, c.requires.2) in
    taken_passed c.requires.1 (a.s.top - 1) n (node_for x.result) x.ensures.1 m.ensures
    (nodes_in (nodes_of a.table.now) a.b.nodes) (not-true m.result.fresh c.if-not-m.true)

pub visit_kind-requires : goal.visit_kind-requires
visit_kind-requires c =
    let a = c.args in
    let m = c.see-m in
    let e = c.node_of-e in
    let x = c.pending_at-x in
    let n : a.s.top - 1 + 1 ≡ a.s.top = omega (arith, c.requires.2) in
    let k = c.requires.1 in (
      c.requires.0,
      taken_walking k (a.s.top - 1) n (node_for x.result) x.ensures.1 m.ensures,
      taken_fits k (a.s.top - 1) n (node_for x.result) x.ensures.1 m.ensures (node_beside e.result) e.ensures.0,
      e.ensures.1,
      taken_low k (a.s.top - 1) n (node_for x.result) x.ensures.1 m.ensures (node_beside e.result) e.ensures.0,
    )

pub returns : goal.returns
returns c =
    let a = c.args in
    let m = c.see-m in
    let e = c.node_of-e in
    let x = c.pending_at-x in
    let n : a.s.top - 1 + 1 ≡ a.s.top = omega (arith, c.requires.2) in
    let r = c.visit_kind in
    taken_turned c.requires.1 (a.s.top - 1) n (node_for x.result) x.ensures.1 m.ensures (node_beside e.result) e.ensures.0
    (nodes_in (nodes_of a.table.now) a.b.nodes) r.new.work r.result r.ensures
