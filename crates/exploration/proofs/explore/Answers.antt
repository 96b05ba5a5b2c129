-- `explore`: what is kept is explored as far as its spans say, the shelf has labels at its store, and each round gives one more member
-- its span; where no place is left every member has one.
use mathlib.Core.Path.{ap, ◌∙◌, subst}
use Prim.Native.Nat.{ℕ, ◌+◌}
use native.Mathlib.Omega.{arith}
use borrow.Author.Rules.{rules}
use lib.ListN.{get_or}
use Rattle.sheet_types.specs.NodeTable.{nodes_of}
use Rattle.sheet_types.specs.HeldSheet.{nodes_in}
use Rattle.ask_labels.specs.LabelShelf.{Shelved}
use Rattle.exploration.specs.MemberExplored.{one_on, one_over}
use Rattle.exploration.specs.ExploredPlaces.{from_low, exploring_from, low_within}
use Rattle.unexplored_members.specs.UnexploredCount.{unexplored_below, unexplored_less}
use Rattle.exploration.specs.ExplorationLaws.{shelf_fits, Explores, explores_none, explores_all, explores_over, explores_next}
use Rattle.work_layout.specs.WorkLayout.{spans_at, member_room}
use Rattle.exploration.proofs.explore.Goals as goal

pub next_place-j-requires : goal.next_place-j-requires
next_place-j-requires c =
    let e = c.loop-plan.invariant.exploring in
    (e.collecting.kept, low_within e, e.collecting.long)

pub returns-then-j-n : goal.returns-then-j-n
returns-then-j-n c =
    let g = c.args in
    let l = c.loop-plan in
    let p = c.next_place-j in
    explores_all (nodes_in (nodes_of g.table.now) g.plan.nodes) g.plan g.work.now g.s c.requires.1
    l.work l.run l.shelf l.store l.invariant p.result p.ensures c.if-j-n.true

pub explore_member-requires : goal.explore_member-requires
explore_member-requires c =
    let g = c.args in
    let l = c.loop-plan in
    let p = c.next_place-j in
    let i = c.id_at-id in
    let d = c.store_of-d in (
      c.requires.0,
      exploring_from l.invariant.exploring p.ensures,
      i.ensures.1,
      ap (λ (n : ℕ). get_or l.work (spans_at + n) 0) i.ensures.0
          ∙ p.ensures.here (omega (arith, p.ensures.within.1, c.if-j-n.false)),
      subst (λ (n : ℕ). Shelved l.work g.plan.facts n c.shelf_for-fit.result) d.ensures
          (shelf_fits l.work g.plan.facts l.store d.result l.shelf c.shelf_for-fit.result l.invariant.shelved c.shelf_for-fit.ensures),
    )

pub returns-in_err-next : goal.returns-in_err-next
returns-in_err-next c =
    let g = c.args in
    let l = c.loop-plan in
    let p = c.next_place-j in
    let m = c.explore_member in
    let nodes = nodes_in (nodes_of g.table.now) g.plan.nodes in
    rw c.from_residual.ensures
    (explores_over nodes g.plan g.work.now g.s c.requires.1
    l.work l.run l.shelf l.store l.invariant p.result p.ensures m.new.work
    c.in_err-next.ensures)

pub loop-plan-smaller : goal.loop-plan-smaller
loop-plan-smaller c =
    let g = c.args in
    let l = c.loop-plan in
    let p = c.next_place-j in
    let i = c.id_at-id in
    let m = c.explore_member in
    let nodes = nodes_in (nodes_of g.table.now) g.plan.nodes in
    let e = c.in_ok-next.ensures in
    unexplored_less l.work m.new.work i.result e.others
    (ap (λ (n : ℕ). get_or l.work (spans_at + n) 0) i.ensures.0
    ∙ p.ensures.here (omega (arith, p.ensures.within.1, c.if-j-n.false)))
    e.explored (omega (arith, i.ensures.1, l.invariant.exploring.collecting.kept.room))

pub loop-plan-preserved : goal.loop-plan-preserved
loop-plan-preserved c =
    let g = c.args in
    let l = c.loop-plan in
    let p = c.next_place-j in
    let i = c.id_at-id in
    let m = c.explore_member in
    let nodes = nodes_in (nodes_of g.table.now) g.plan.nodes in
    explores_next nodes g.plan g.work.now g.s c.requires.1
    l.work l.run l.shelf l.store l.invariant p.result p.ensures i.result m.new.work c.in_ok-next.next.running c.in_ok-next.next.shelf
    c.store_of-d.result c.store_of-d.ensures
    (c.in_ok-next.ensures)
