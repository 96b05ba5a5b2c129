-- The fields are read one after another, each from the place after the space that ends the one before.
use mathlib.Core.Path.{sym, ap, ◌∙◌}
use Prim.Native.Nat.{ℕ}
use Rattle.case_lines.specs.declared.Line.TheVariants.{Holds}
use Rattle.case_lines.specs.LineLaws.{case_no_name, case_no_left, case_no_right, case_holds}
use Rattle.case_lines.proofs.case_of.Goals as goal

pub returns-then-wrong_name_at : goal.returns-then-wrong_name_at
returns-then-wrong_name_at c =
    let a = c.args in
    sym (case_no_name a.call a.line.now a.at (sym c.wrong_name_at.ensures ∙ c.if-wrong_name_at.true))

pub returns-in_default : goal.returns-in_default
returns-in_default c =
    let a = c.args in
    sym (case_no_left a.call a.line.now a.at (sym c.wrong_name_at.ensures ∙ c.if-wrong_name_at.false)
    c.after_from-p.ensures (sym c.number_at.ensures ∙ c.in_default.is))

pub returns-in_default-number_at : goal.returns-in_default-number_at
returns-in_default-number_at c =
    let a = c.args in
    sym (case_no_right a.call a.line.now a.at (sym c.wrong_name_at.ensures ∙ c.if-wrong_name_at.false)
    c.after_from-p.ensures (sym c.number_at.ensures ∙ c.in-Some.is)
    c.after_from-q.ensures (sym c.number_at-2.ensures ∙ c.in_default-number_at.is))

pub returns : goal.returns
returns c =
    let a = c.args in
    let l = c.in-Some in
    let r = c.in-Some-number_at in
    ap (λ (n : ℕ). Holds (record { call = a.call; name = a.at; until = n; left = l.left; right = r.right; digits = c.after_from-digits.result }))
    c.end_from-until.ensures
    ∙ sym (case_holds a.call a.line.now a.at (sym c.wrong_name_at.ensures ∙ c.if-wrong_name_at.false)
    c.after_from-p.ensures (sym c.number_at.ensures ∙ l.is)
    c.after_from-q.ensures (sym c.number_at-2.ensures ∙ r.is) c.after_from-digits.ensures)
