-- The test decides.
use borrow.Author.Tests.{lt-ltb, le-ltb}
use Rattle.level_reach.specs.Constraints.{joined_in}
use Rattle.level_reach.proofs.constraints.joined.Goals as goal

pub returns-then-union-lt-SETS : goal.returns-then-union-lt-SETS
unfolding joined_in
returns-then-union-lt-SETS c = rw (joined_in, lt-ltb _ _ c.if-union-lt-SETS.true) c.number_at.ensures

pub returns-else-union-lt-SETS : goal.returns-else-union-lt-SETS
unfolding joined_in
returns-else-union-lt-SETS c = rw (joined_in, le-ltb _ _ c.if-union-lt-SETS.false)
