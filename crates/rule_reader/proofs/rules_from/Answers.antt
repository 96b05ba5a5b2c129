-- A rule is refused in its premise or its conclusion, or it is stored.
use Rattle.std.proofs.Common.{◌≡◌, sym, rules, arith, length-set}
use Rattle.std.proofs.lemmas.Result.{err_from_is_err_and}
use Rattle.sheet_fields.specs.FieldLaws.{set_gets}
use Rattle.sheet_fields.specs.SectionLaws.{rule_no_premise, rule_no_conclusion, rule_got}
use Rattle.rule_reader.specs.RuleLoop.{rules_first, rules_stopped, rules_next, rules_end}
use Rattle.rule_reader.proofs.rules_from.Goals as goal

pub loop-i-init : goal.loop-i-init
loop-i-init c = let a = c.args in (search rules, search rules, rules_first a.facts a.s.now a.n a.at a.rules.now)

pub returns-in_err-premise : goal.returns-in_err-premise
returns-in_err-premise c =
    let a = c.args in
    let l = c.loop-i in
    let p = err_from_is_err_and c.from_residual.result c.from_residual.ensures.1 in
    rw (p.1, p.2)
    (rules_stopped a.facts a.s.now a.n a.at a.rules.now l.i l.next l.rules l.invariant.2 _ (omega arith)
    (rule_no_premise a.facts a.s.now l.next (sym c.in_err-premise.ensures)))

pub set_at-requires-in-loop-i : goal.set_at-requires-in-loop-i
set_at-requires-in-loop-i c =
    (((set_gets c.args.s.now c.loop-i.next c.args.facts).holds _ _ (sym c.in_ok-premise.ensures)).0.within, search rules)

pub returns-in_err-conclusion : goal.returns-in_err-conclusion
returns-in_err-conclusion c =
    let a = c.args in
    let l = c.loop-i in
    let p = err_from_is_err_and c.from_residual-in_err-conclusion.result c.from_residual-in_err-conclusion.ensures.1 in
    rw (p.1, p.2)
    (rules_stopped a.facts a.s.now a.n a.at a.rules.now l.i l.next l.rules l.invariant.2 _ (omega arith)
    (rule_no_conclusion a.facts a.s.now l.next (sym c.in_ok-premise.ensures) (sym c.in_err-conclusion.ensures)))

pub loop-i-preserved : goal.loop-i-preserved
loop-i-preserved c =
    let a = c.args in
    let l = c.loop-i in
    let k : c.from-k.result ≡ l.i = omega arith in
    let read = sym c.in_ok-conclusion.ensures in (
      ((set_gets a.s.now c.in_ok-premise.premise.next a.facts).holds _ _ read).0.within,
      simp length-set (omega arith),
      rw k
          (rules_next a.facts a.s.now a.n a.at a.rules.now l.i l.next l.rules l.invariant.2 _ _ _ (omega arith) (omega arith)
          (rule_got a.facts a.s.now l.next (sym c.in_ok-premise.ensures) read)),
    )

pub returns : goal.returns
returns c =
    let a = c.args in
    let l = c.loop-i in
    rules_end a.facts a.s.now a.n a.at a.rules.now l.i l.next l.rules l.invariant.2 (omega arith)
