-- The test of the place decides.
use Rattle.std.proofs.Common.{arith}
use Rattle.std.proofs.lemmas.Grind.{common_steps}
use Rattle.level_tables.specs.Numbers.{number_at}
use Rattle.level_tables.proofs.numbers.number_at.Goals as goal

pub returns : goal.returns
unfolding number_at
returns c = grind (arith, common_steps)
