-- Both tests decide.
use borrow.Author.Tests.{lt-ltb, le-ltb}
use Rattle.level_tables.specs.Numbers.{entry_place}
use Rattle.level_tables.proofs.numbers.entry_place.Goals as goal

pub returns-then-k-ge4 : goal.returns-then-k-ge4
unfolding entry_place
returns-then-k-ge4 c = rw (entry_place, le-ltb _ _ c.if-k-ge4.true)

pub returns-then-i-lt-MOST_ENTRIES : goal.returns-then-i-lt-MOST_ENTRIES
unfolding entry_place
returns-then-i-lt-MOST_ENTRIES c = rw (entry_place, lt-ltb _ 4 c.if-k-ge4.false, lt-ltb _ _ c.if-i-lt-MOST_ENTRIES.true)

pub returns-else-i-lt-MOST_ENTRIES : goal.returns-else-i-lt-MOST_ENTRIES
unfolding entry_place
returns-else-i-lt-MOST_ENTRIES c = rw (entry_place, lt-ltb _ 4 c.if-k-ge4.false, le-ltb _ _ c.if-i-lt-MOST_ENTRIES.false)
