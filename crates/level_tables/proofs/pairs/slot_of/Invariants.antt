-- The slot that is tried next is one of the table's.
use Rattle.std.proofs.Common.{◌≤◌, ◌<◌}
use Rattle.level_tables.proofs.pairs.slot_of.Given as goal

abbrev pub invariant-loop : goal.invariant-loop
invariant-loop l = (l.s < l.slots) × (l.slots ≤ 131072)
