-- The seeds are two starts or all, and the set is the one that grows from them.
use borrow.Author.Rules.{rules}
use Rattle.call_seeds.specs.ChoiceLaws.{seeds_from_lem}
use Rattle.call_frame.specs.BegunLaws.{seeds_begun}
use Rattle.call_frame.proofs.begin_seeds.Goals as goal

pub begin_set-begun-requires : goal.begin_set-begun-requires
begin_set-begun-requires c =
    let args = c.args in
    let choice = c.requires.1 in
    let seeds = c.seeds_of-seeds in
    let count = c.seed_count-count in (
      c.requires.0,
      choice.ready.admissible,
      choice.ready.table,
      (seeds_from_lem args.sheet args.left args.right choice args.all seeds.result count.result (search rules) seeds.ensures count.ensures).fit,
    )

pub returns : goal.returns
returns c =
    let args = c.args in
    let choice = c.requires.1 in
    let seeds = c.seeds_of-seeds in
    let count = c.seed_count-count in
    seeds_begun args.sheet seeds.result count.result
    (seeds_from_lem args.sheet args.left args.right choice args.all seeds.result count.result (search rules) seeds.ensures count.ensures)
    c.begin_set-begun.ensures
