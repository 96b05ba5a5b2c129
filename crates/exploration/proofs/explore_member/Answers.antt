-- `explore_member`: the walk begins with nothing collected and finds all moves of the member, the additions bring in what its moves
-- ask for, and the span that is stored names the places where the moves stand.
use mathlib.Core.Path.{refl, ap, ◌∙◌}
use native.Mathlib.Omega.{arith}
use borrow.Author.Rules.{rules}
use Rattle.sheet_types.specs.Sheet.{Configuration}
use Rattle.member_table.specs.Ranks.{rank_of}
use Rattle.sheet_types.specs.NodeTable.{nodes_of}
use Rattle.sheet_types.specs.HeldSheet.{configuration, nodes_in}
use Rattle.exploration.specs.MemberExplored.{lent_carried, id_fits, walk_begins, found_standing, moves_over, additions_over, member_explored, found_on, found_over, added_on, added_over}
use Rattle.exploration.proofs.explore_member.Goals as goal

pub moves_of-requires : goal.moves_of-requires
moves_of-requires c =
    let g = c.args in
    let u = c.configuration_of-e in
    let e = u.ensures.0 ∙ c.key_of-x.ensures.1 in (
      lent_carried u.result.store g.s.moves c.requires.0,
      walk_begins c.requires.1 g.id c.requires.2 u.result.store g.shelf (ap (λ (x : Configuration). x.store) e) c.requires.4,
      refl,
      refl,
      id_fits c.requires.1 g.id c.requires.2 u.result.store e,
      u.ensures.1,
      refl,
    )

pub returns-in_err-t : goal.returns-in_err-t
returns-in_err-t c =
    let g = c.args in
    let u = c.configuration_of-e in
    let m = c.moves_of in
    rw c.from_residual.ensures
    (moves_over (nodes_in (nodes_of g.table.now) g.plan.nodes) g.plan g.work.now g.s g.id
    c.requires.1 c.requires.2 c.requires.3 u.result.store (configuration u.result) (u.ensures.0 ∙ c.key_of-x.ensures.1) g.shelf
    m.new.work (c.in_err-t.ensures))

pub returns-in_err-u : goal.returns-in_err-u
returns-in_err-u c =
    let g = c.args in
    let u = c.configuration_of-e in
    let m = c.moves_of in
    let a = c.add_labels in
    rw c.from_residual-in_err-u.ensures
    (additions_over (nodes_in (nodes_of g.table.now) g.plan.nodes) g.plan g.work.now g.s g.id
    c.requires.1 c.requires.2 c.requires.3 u.result.store (configuration u.result) (u.ensures.0 ∙ c.key_of-x.ensures.1) g.shelf
    m.new.work c.in_ok-t.t c.in_ok-t.ensures a.new.work c.in_err-u.ensures)

pub returns : goal.returns
returns c =
    let g = c.args in
    let u = c.configuration_of-e in
    let m = c.moves_of in
    let a = c.add_labels in
    let e = u.ensures.0 ∙ c.key_of-x.ensures.1 in
    member_explored (nodes_in (nodes_of g.table.now) g.plan.nodes) g.plan g.work.now g.s g.id
    c.requires.1 c.requires.2 c.requires.3 u.result.store (configuration u.result) e g.shelf
    m.new.work c.in_ok-t.t c.in_ok-t.ensures a.new.work c.in_ok-u.u c.in_ok-u.ensures
    c.put_span.new.work c.put_span.ensures (ap (λ (x : Configuration). x.store) e)
