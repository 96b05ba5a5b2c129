-- The union is no less than d.
use Rattle.closure_table.specs.OutsideLaws.{or_above}
use Rattle.ask_labels.proofs.missing.Goals as goal

pub overflow_sub-result : goal.overflow_sub-result
overflow_sub-result c = or_above c.args.d c.args.c
