-- `first_layer`: each place with digit 1 has j facts or more.
use native.Mathlib.Omega.{arith}
use borrow.Author.Rules.{rules}
use Rattle.digit_lists.specs.LeastSizes.{layer_none, layer_first, layer_last}
use Rattle.std.proofs.Common.{◌≡◌, subst}
use Rattle.digit_lists.specs.DigitLists.{FirstLayer}
use Rattle.digit_lists.proofs.first_layer.Goals as goal

pub returns-then-x-layer-ne0 : goal.returns-then-x-layer-ne0
returns-then-x-layer-ne0 c =
    let l = c.loop-j in
    let y = c.layer in
    layer_first c.args.x l.j l.invariant.1 y.result (search rules) (search rules) y.ensures (search rules)

pub loop-j-preserved : goal.loop-j-preserved
loop-j-preserved c =
    let l = c.loop-j in
    let y = c.layer in
    (search rules, layer_none c.args.x l.j l.invariant.1 y.result y.ensures (search rules))

pub returns : goal.returns
returns c =
    let l = c.loop-j in
    let e : l.j ≡ 5 = omega arith in
    subst (FirstLayer c.args.x) e (layer_last c.args.x l.j l.invariant.1 e (search rules) (search rules))
