-- `size_in_word` takes the places with the facts that the word's number lacks.
use Prim.Native.Nat.{◌-◌}
use borrow.Author.Rules.{rules}
use Rattle.digit_lists.specs.SizesInWord.{size_more, size_fewer, size_layer}
use Rattle.digit_lists.proofs.size_in_word.Goals as goal

pub returns-then-k-high : goal.returns-then-k-high
returns-then-k-high c =
    let g = c.args in
    size_more g.x g.i g.k (search rules) (search rules)

pub returns-then-k-high-gt5 : goal.returns-then-k-high-gt5
returns-then-k-high-gt5 c =
    let g = c.args in
    size_fewer g.x g.i g.k (search rules) (search rules)

pub returns : goal.returns
returns c =
    let g = c.args in
    size_layer g.x g.i g.k (search rules) (g.k - c.fact_count-high.result) c.layer.result
    (search rules) c.layer.ensures
