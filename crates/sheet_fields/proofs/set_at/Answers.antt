-- A shift by the number of facts leaves something exactly where an absent fact is in the set.
use Rattle.std.proofs.Common.{arith}
use Rattle.std.proofs.lemmas.Grind.{common_steps}
use Rattle.sheet_laws.specs.Reading.{set_at}
use Rattle.sheet_fields.specs.AbsentFacts.{shifted_none, shifted_some}
use Rattle.sheet_fields.proofs.set_at.Goals as goal

pub returns-in_err-set : goal.returns-in_err-set
unfolding set_at
returns-in_err-set c = grind (arith, common_steps, shifted_none, shifted_some)

pub returns-then-set-facts-ne0 : goal.returns-then-set-facts-ne0
unfolding set_at
returns-then-set-facts-ne0 c = grind (arith, common_steps, shifted_none, shifted_some)

pub returns : goal.returns
unfolding set_at
returns c = grind (arith, common_steps, shifted_none, shifted_some)
