-- The slot that was found is the pair's, or free for it.
use Rattle.level_tables.specs.Pairs.{full, there}
use Rattle.level_tables.specs.PairLaws.{slot_pair, appended_entered}
use Rattle.level_tables.proofs.pairs.enter.Goals as goal

pub returns-in_err-slot : goal.returns-in_err-slot
returns-in_err-slot c = rw c.from_residual.ensures full

pub returns-then-held-eq0 : goal.returns-then-held-eq0
returns-then-held-eq0 c = appended_entered c.in_ok-slot.slot c.append.result c.append.ensures

pub returns : goal.returns
returns c =
    let a = c.args in
    let s = c.in_ok-slot in
    there (slot_pair a.w.now a.base s.slot a.a a.b s.ensures c.number_at-held.ensures c.if-held-eq0.false)
