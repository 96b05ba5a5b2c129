-- The slot that was found is free or the pair's.
use Rattle.level_tables.specs.PairLaws.{held_found}
use Rattle.level_tables.proofs.pairs.find.Goals as goal

pub returns : goal.returns
returns c =
    let a = c.args in
    let s = c.in_ok-slot in
    held_found a.w.now a.base s.slot a.a a.b s.ensures c.number_at.ensures c.checked_sub.result c.checked_sub.ensures
