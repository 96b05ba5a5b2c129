-- The count is handed on to the names.
use Rattle.std.proofs.Common.{sym, arith}
use Rattle.std.proofs.lemmas.Grind.{common_steps}
use Rattle.sheet_laws.specs.SheetLimits.{max_facts}
use Rattle.sheet_laws.specs.Reading.{facts_at}
use Rattle.sheet_laws.specs.FieldLaws.{count_gets}
use Rattle.sheet_fields.proofs.facts_at.Goals as goal

pub returns-in_err-n : goal.returns-in_err-n
unfolding facts_at
returns-in_err-n c = grind (arith, common_steps)

pub names_from-requires : goal.names_from-requires
names_from-requires c = ((count_gets c.args.s.now c.args.at 0 max_facts 2).holds _ _ (sym c.in_ok-n.ensures)).0.within

pub returns : goal.returns
unfolding facts_at
returns c = grind (arith, common_steps)
