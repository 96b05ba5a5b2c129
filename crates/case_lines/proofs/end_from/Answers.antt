-- The bytes passed over are others, so the end from i on is the end from the place on.
use mathlib.Core.Path.{sym, ◌∙◌}
use native.Mathlib.Omega.{arith}
use Rattle.case_lines.specs.LineLaws.{end_there, end_further, end_past}
use Rattle.case_lines.proofs.end_from.Goals as goal

pub returns-then-s-i : goal.returns-then-s-i
returns-then-s-i c =
    let a = c.args in
    let i = c.loop-i.i in
    sym (end_there a.stop a.s.now i (omega arith) c.if-s-i.true) ∙ c.loop-i.invariant

pub loop-i-preserved : goal.loop-i-preserved
loop-i-preserved c =
    let a = c.args in
    let i = c.loop-i.i in
    sym (end_further a.stop a.s.now i (omega arith) c.if-s-i.false) ∙ c.loop-i.invariant

pub returns : goal.returns
returns c =
    let a = c.args in
    let i = c.loop-i.i in
    let l = c.loop-i.auto.i-end in
    grind (arith, end_past a.stop a.s.now i (omega arith), end_past a.stop a.s.now a.at)
