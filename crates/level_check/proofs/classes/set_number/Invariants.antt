-- The classes ascend, each above the one before.
use Rattle.std.proofs.Common.{◌-◌, ◌≤◌}
use Rattle.level_tables.specs.Numbers.{none}
use Rattle.level_check.proofs.classes.set_number.Given as goal

abbrev pub invariant-loop-class : goal.invariant-loop-class
invariant-loop-class l = l.low ≤ none

abbrev pub decreases-loop-class : goal.decreases-loop-class
decreases-loop-class l = none - l.low
