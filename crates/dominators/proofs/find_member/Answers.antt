-- `find_member` keeps x between two places: members below the lower one stand before x, those from the upper one on do not.
use Rattle.dominators.specs.FoundMembers.{halved_upper, halved_lower}
use native.Mathlib.Omega.{arith}
use mathlib.Core.Path.{sym, ◌∙◌}
use Prim.Native.Nat.{ℕ, ◌+◌, ◌-◌, ◌/◌}
use Rattle.dominators.proofs.find_member.Goals as goal

pub loop-low-preserved-then-is_lt : goal.loop-low-preserved-then-is_lt
loop-low-preserved-then-is_lt c =
    let g = c.args in
    let l = c.loop-low in
    let mid : ℕ = l.low + (l.high - l.low) / 2 in
    halved_upper g.work.now g.n g.x l.low l.high mid c.compare.result c.key_at-key.result l.invariant
    (omega arith) (omega arith) c.key_at-key.ensures c.compare.ensures (sym c.is_lt.ensures ∙ c.if-is_lt.true)

pub loop-low-preserved : goal.loop-low-preserved
loop-low-preserved c =
    let g = c.args in
    let l = c.loop-low in
    let mid : ℕ = l.low + (l.high - l.low) / 2 in
    halved_lower g.work.now g.n g.x l.low l.high mid c.compare.result c.key_at-key.result l.invariant
    (omega arith) (omega arith) c.key_at-key.ensures c.compare.ensures (sym c.is_lt.ensures ∙ c.if-is_lt.false)
