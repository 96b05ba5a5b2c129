-- The test decides.
use borrow.Author.Tests.{lt-ltb, le-ltb}
use Rattle.level_reach.specs.Constraints.{constraint_of}
use Rattle.level_reach.proofs.constraints.constraint.Goals as goal

pub returns-then-e-lt-MOST_CONSTRAINTS : goal.returns-then-e-lt-MOST_CONSTRAINTS
unfolding constraint_of
returns-then-e-lt-MOST_CONSTRAINTS c = rw (constraint_of, lt-ltb _ _ c.if-e-lt-MOST_CONSTRAINTS.true) c.number_at.ensures

pub returns-else-e-lt-MOST_CONSTRAINTS : goal.returns-else-e-lt-MOST_CONSTRAINTS
unfolding constraint_of
returns-else-e-lt-MOST_CONSTRAINTS c = rw (constraint_of, le-ltb _ _ c.if-e-lt-MOST_CONSTRAINTS.false)
