-- The test decides.
use borrow.Author.Tests.{lt-ltb, le-ltb}
use Rattle.level_tables.specs.Pairs.{pair_place}
use Rattle.level_tables.proofs.pairs.pair_place.Goals as goal

pub returns-then-i-lt-MOST_PAIRS : goal.returns-then-i-lt-MOST_PAIRS
unfolding pair_place
returns-then-i-lt-MOST_PAIRS c = rw (pair_place, lt-ltb _ _ c.if-i-lt-MOST_PAIRS.true)

pub returns-else-i-lt-MOST_PAIRS : goal.returns-else-i-lt-MOST_PAIRS
unfolding pair_place
returns-else-i-lt-MOST_PAIRS c = rw (pair_place, le-ltb _ _ c.if-i-lt-MOST_PAIRS.false)
