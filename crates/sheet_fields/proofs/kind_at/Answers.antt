-- A byte is a kind's, or it is refused.
use Rattle.std.proofs.Common.{arith}
use Rattle.std.proofs.lemmas.Grind.{common_steps}
use Rattle.sheet_laws.specs.Reading.{kind_at}
use Rattle.sheet_fields.proofs.kind_at.Goals as goal

pub returns-in_err-byte : goal.returns-in_err-byte
unfolding kind_at
returns-in_err-byte c = grind (arith, common_steps)

pub returns-in_default : goal.returns-in_default
unfolding kind_at
returns-in_default c = grind (arith, common_steps)

pub returns-in-0 : goal.returns-in-0
unfolding kind_at
returns-in-0 c = grind (arith, common_steps)

pub returns-in-1 : goal.returns-in-1
unfolding kind_at
returns-in-1 c = grind (arith, common_steps)

pub returns-in-2 : goal.returns-in-2
unfolding kind_at
returns-in-2 c = grind (arith, common_steps)

pub returns-in-3 : goal.returns-in-3
unfolding kind_at
returns-in-3 c = grind (arith, common_steps)

pub returns-in-4 : goal.returns-in-4
unfolding kind_at
returns-in-4 c = grind (arith, common_steps)
