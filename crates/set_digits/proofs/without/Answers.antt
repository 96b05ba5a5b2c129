-- `without` takes away digits that the union has.
use native.Mathlib.Omega.{arith}
use Rattle.search_laws.specs.OutsideLaws.{or_above}
use Rattle.set_digits.proofs.without.Goals as goal

pub overflow_sub-result : goal.overflow_sub-result
overflow_sub-result c = omega (arith, or_above c.args.y c.args.x)
