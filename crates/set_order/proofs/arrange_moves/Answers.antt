-- `arrange_moves` sorts numbers that are distinct, as different ids have different places.
use native.Mathlib.Omega.{arith}
use Rattle.set_order.specs.MovedPlaceLaws.{moves_fit, moves_distinct, moves_arranged}
use Rattle.set_order.proofs.arrange_moves.Goals as goal

pub place_targets-requires : goal.place_targets-requires
place_targets-requires c =
    (c.requires.0, omega arith, omega (arith, c.requires.2.within), moves_fit c.requires.0 c.requires.2)

pub sort_numbers-requires : goal.sort_numbers-requires
sort_numbers-requires c =
    let p = c.place_targets in
    (omega arith, omega (arith, c.requires.2.within, p.ensures.outside.long), moves_distinct c.requires.0 c.requires.2 p.ensures)

pub returns : goal.returns
returns c = moves_arranged c.requires.0 c.requires.2 c.place_targets.ensures c.sort_numbers.ensures
