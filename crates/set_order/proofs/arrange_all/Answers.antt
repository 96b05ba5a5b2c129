-- `arrange_all` arranges the moves of one member after another, and each has a part of its own.
use native.Mathlib.Omega.{arith}
use Rattle.set_order.specs.MovedPlaceLaws.{all_more}
use Rattle.set_order.proofs.arrange_all.Goals as goal

pub loop-id-preserved : goal.loop-id-preserved
loop-id-preserved c = all_more c.loop-id.invariant c.requires (omega arith) c.arrange_moves.ensures
