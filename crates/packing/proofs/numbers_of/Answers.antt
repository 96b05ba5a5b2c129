-- `numbers_of` works out the three numbers from the left.
use Rattle.packing.proofs.FromArray.{array_numbers}
use native.Mathlib.Omega.{arith}
use borrow.Author.Rules.{rules}
use Rattle.packing.proofs.numbers_of.Goals as goal

pub returns : goal.returns
returns c =
    let g = c.args in
    let one = c.first_number-a in
    let two = c.four-b in
    let three = c.four-c in
    array_numbers g.store g.count g.threads.now one.result two.result three.result (omega arith) c.requires.0 c.requires.1
    (λ k h. search rules) one.ensures two.ensures three.ensures
