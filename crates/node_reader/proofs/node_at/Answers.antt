-- `node_at` reads the fields in the definition's order, and hands a refusal up.
use Rattle.std.proofs.Common.{sym, ap, ◌∙◌, rules, ℕ}
use Rattle.std.proofs.lemmas.Result.{err_from_is_err_and}
use Rattle.set_closure.specs.RuleTable.{rules_in}
use Rattle.sheet_types.specs.Sheet.{Node}
use Rattle.sheet_types.specs.Reading.{got}
use Rattle.sheet_types.specs.KindBytes.{kind_byte}
use Rattle.sheet_types.specs.HeldSheet.{node_held}
use Rattle.sheet_fields.specs.NodeFields.{node_fields_at}
use Rattle.sheet_fields.specs.FieldLaws.{kind_gets, first_gets}
use Rattle.sheet_fields.specs.AnswerLaws.{refused_then, got_then}
use Rattle.node_reader.specs.FirstFields.{held_closed}
use Rattle.node_reader.specs.StoredNode.{second_low}
use Rattle.node_reader.specs.NodesFound.{node_refused}
use Rattle.node_reader.proofs.node_at.Goals as goal

pub returns-in_err-kind : goal.returns-in_err-kind
unfolding node_fields_at
returns-in_err-kind c =
    let a = c.args in
    let p = err_from_is_err_and c.from_residual.result c.from_residual.ensures.1 in
    rw (p.1, p.2)
    (node_refused a.facts (rules_in a.rules.now a.rule_count) a.nodes a.number a.s.now a.at _ (sym (refused_then _ _ c.in_err-kind.ensures)))

pub first_of_kind-requires : goal.first_of_kind-requires
first_of_kind-requires c = (((kind_gets c.args.s.now c.args.at).holds _ _ (sym c.in_ok-kind.ensures)).0.within, search rules)

pub returns-in_err-first : goal.returns-in_err-first
unfolding node_fields_at
returns-in_err-first c =
    let a = c.args in
    let p = err_from_is_err_and c.from_residual-in_err-first.result c.from_residual-in_err-first.ensures.1 in
    rw (p.1, p.2)
    (node_refused a.facts (rules_in a.rules.now a.rule_count) a.nodes a.number a.s.now a.at _
    (got_then _ _ c.in_ok-kind.ensures ∙ sym (refused_then _ _ c.in_err-first.ensures)))

pub second_of_kind-requires : goal.second_of_kind-requires
second_of_kind-requires c =
    let a = c.args in
    let kind = c.in_ok-kind.kind in
    ((first_gets (kind_byte kind.kind) a.facts a.number a.s.now kind.next).holds _ _ (sym c.in_ok-first.ensures)).within

pub returns-in_err-second : goal.returns-in_err-second
unfolding node_fields_at
returns-in_err-second c =
    let a = c.args in
    let p = err_from_is_err_and c.from_residual-in_err-second.result c.from_residual-in_err-second.ensures.1 in
    rw (p.1, p.2)
    (node_refused a.facts (rules_in a.rules.now a.rule_count) a.nodes a.number a.s.now a.at _
    (got_then _ _ c.in_ok-kind.ensures ∙ got_then _ _ c.in_ok-first.ensures ∙ sym (refused_then _ _ c.in_err-second.ensures)))

pub returns : goal.returns
unfolding node_fields_at
returns c =
    let a = c.args in
    let kind = c.in_ok-kind.kind in
    let first = c.in_ok-first.first in
    let second = c.in_ok-second.second in
    let rules = rules_in a.rules.now a.rule_count in
    record {
      reading =
          ap (λ (x : ℕ). got (node_held (kind_byte kind.kind) x second.value) second.next) c.held_first.ensures
          ∙ ap (λ (n : Node). got n second.next) (held_closed rules (kind_byte kind.kind) first.value second.value)
          ∙ sym (got_then _ _ c.in_ok-kind.ensures ∙ got_then _ _ c.in_ok-first.ensures ∙ got_then _ _ c.in_ok-second.ensures);
      second = second_low (kind_byte kind.kind) a.nodes a.number a.s.now first.next (sym c.in_ok-second.ensures);
    }
