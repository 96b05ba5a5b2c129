-- Each turn keeps the set between the given one and its closure; a set that a pass leaves alone is closed, and one that it
-- changes has a greater number after it.
use Rattle.sheets.specs.Stores.{pass}
use Rattle.store_laws.specs.StoreLaws.{between_pass, between_closed, pass_grows}
use Rattle.set_closure.specs.RuleTable.{rules_in}
use borrow.Author.Rules.{rules}
use native.Mathlib.Omega.{arith}
use mathlib.Core.Path.{◌≡◌, sym, ◌∙◌}
use Rattle.set_closure.proofs.close.Goals as goal

pub returns-then-t-s : goal.returns-then-t-s
returns-then-t-s c =
    let same : c.pass_once-t.result ≡ c.loop-s.s = omega arith in
    between_closed c.loop-s.invariant.1 (sym c.pass_once-t.ensures ∙ same)

pub loop-s-smaller : goal.loop-s-smaller
loop-s-smaller c =
    let rs = rules_in c.args.rules.now c.args.n in
    let s = c.loop-s.s in
    let changed : pass rs s ≡ s → ⊥ = λ same. omega (arith, c.pass_once-t.ensures ∙ same) in
    omega (arith, pass_grows rs s changed)

pub loop-s-preserved : goal.loop-s-preserved
loop-s-preserved c = (search rules, rw c.pass_once-t.ensures (between_pass c.loop-s.invariant.1))
