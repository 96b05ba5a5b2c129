-- The byte is handed on, and both bounds are tested as in the definition.
use Rattle.std.proofs.Common.{arith}
use Rattle.std.proofs.lemmas.Grind.{common_steps}
use Rattle.sheet_laws.specs.Reading.{count_at}
use Rattle.sheet_fields.proofs.counted_at.Goals as goal

pub returns-in_err-n : goal.returns-in_err-n
unfolding count_at
returns-in_err-n c = grind (arith, common_steps)

pub returns-then-n-low : goal.returns-then-n-low
unfolding count_at
returns-then-n-low c = grind (arith, common_steps)

pub returns : goal.returns
unfolding count_at
returns c = grind (arith, common_steps)
