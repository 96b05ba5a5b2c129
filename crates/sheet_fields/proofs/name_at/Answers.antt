-- The name is all there, or refusal 1 is given.
use Rattle.std.proofs.Common.{arith}
use Rattle.std.proofs.lemmas.Grind.{common_steps}
use Rattle.sheet_laws.specs.Reading.{name_at}
use Rattle.sheet_fields.proofs.name_at.Goals as goal

pub returns-then-s-at-lt-NAME_LENGTH : goal.returns-then-s-at-lt-NAME_LENGTH
unfolding name_at
returns-then-s-at-lt-NAME_LENGTH c = grind (arith, common_steps)

pub returns : goal.returns
unfolding name_at
returns c = grind (arith, common_steps)
