-- Each turn keeps the set between the given one and its closure; a set that grows by nothing is closed, and one that grows has a
-- greater number after it.
use Rattle.held_rules.specs.HeldRuleLaws.{between_ends, grown_above}
use native.Mathlib.Omega.{arith}
use Rattle.held_rules.proofs.close.Goals as goal

pub returns-then-t-s : goal.returns-then-t-s
returns-then-t-s c = between_ends c.loop-s.invariant.1 c.grown-t.ensures (omega arith)

pub loop-s-smaller : goal.loop-s-smaller
loop-s-smaller c = omega (arith, grown_above c.grown-t.ensures (λ e. omega arith))
