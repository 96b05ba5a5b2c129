-- `dominates_in` looks the lifted target up only where the move comes below; it is then a member, and its first round apart decides.
use native.Mathlib.Omega.{arith}
use Prim.Native.Nat.{◌%◌}
use mathlib.Core.Path.{sym, ◌∙◌}
use Rattle.telling_moves.specs.TrailTests.{apart_fits, x_target, y_target, lifted_inside, dominates_by}
use Rattle.telling_moves.proofs.dominates_in.Goals as goal

pub comes_below-requires : goal.comes_below-requires
comes_below-requires c =
    let p = c.requires in
    let g = c.args in
    let few = p.0.held.held.few.0 in (
      omega (arith, x_target p.0 g.x g.y p.1, few),
      omega (
        arith,
        y_target p.0 g.x g.y
            p.1,
        few,
      ),
      p.0.held.held.long,
    )

pub find_lifted-q-requires : goal.find_lifted-q-requires
find_lifted-q-requires c =
    let p = c.requires in
    let g = c.args in
    let few = p.0.held.held.few.0 in (
      few,
      omega (arith, y_target p.0 g.x g.y p.1, few),
      omega (
        arith,
        x_target p.0 g.x g.y
            p.1,
        few,
      ),
      p.0.held.held.long,
    )

pub apart_at-requires : goal.apart_at-requires
apart_at-requires c =
    let p = c.requires in
    let g = c.args in
    let b = c.comes_below in
    apart_fits p.0 (g.y % 65536) c.find_lifted-q.result (y_target p.0 g.x g.y p.1)
    (lifted_inside p.0 g.x g.y p.1 (sym b.ensures ∙ c.if-not-comes_below.false)
    c.find_lifted-q.result c.find_lifted-q.ensures)

pub returns : goal.returns
returns c =
    let p = c.requires in
    let g = c.args in
    let b = c.comes_below in
    let f = c.find_lifted-q in
    dominates_by p.0 g.x g.y p.1 (sym b.ensures ∙ c.if-not-comes_below.false)
    f.result f.ensures g.r c.apart_at.result c.apart_at.ensures
