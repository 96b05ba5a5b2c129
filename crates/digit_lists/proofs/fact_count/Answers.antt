-- A set has as many facts as its number has digits 1.
use native.Mathlib.Omega.{arith}
use Rattle.digit_lists.specs.SizeSplit.{ones_count}
use Rattle.digit_lists.proofs.fact_count.Goals as goal

pub returns : goal.returns
returns c = ones_count 16 c.args.s (omega arith)
