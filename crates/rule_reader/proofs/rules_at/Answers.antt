-- The count is handed on to the rules.
use Rattle.std.proofs.Common.{sym, rules, ◌∙◌}
use Rattle.std.proofs.lemmas.Result.{err_from_is_err_and}
use Rattle.sheet_types.specs.SheetLimits.{max_rules}
use Rattle.sheet_types.specs.Reading.{rules_at}
use Rattle.sheet_fields.specs.FieldLaws.{count_gets}
use Rattle.sheet_fields.specs.AnswerLaws.{refused_then, got_then}
use Rattle.rule_reader.proofs.rules_at.Goals as goal

pub returns-in_err-n : goal.returns-in_err-n
unfolding rules_at
returns-in_err-n c =
    let p = err_from_is_err_and c.from_residual.result c.from_residual.ensures.1 in
    rw (p.1, p.2) (record { reading = refused_then _ _ c.in_err-n.ensures; array = rw (← c.in_err-n.ensures) })

pub rules_from-requires : goal.rules_from-requires
rules_from-requires c =
    let got = (count_gets c.args.s.now c.args.at 0 max_rules 4).holds _ _ (sym c.in_ok-n.ensures) in
    (got.0.within, search rules, got.2)

pub returns : goal.returns
unfolding rules_at
returns c =
    let r = c.rules_from.ensures in
    record { reading = r.reading ∙ sym (got_then _ _ c.in_ok-n.ensures); array = rw (← c.in_ok-n.ensures) r.array }
