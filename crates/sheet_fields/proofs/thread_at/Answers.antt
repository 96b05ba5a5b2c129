-- A byte is handed on where it is a node.
use Rattle.std.proofs.Common.{arith}
use Rattle.std.proofs.lemmas.Grind.{common_steps}
use Rattle.sheet_laws.specs.Reading.{thread_at}
use Rattle.sheet_fields.proofs.thread_at.Goals as goal

pub returns-in_err-k : goal.returns-in_err-k
unfolding thread_at
returns-in_err-k c = grind (arith, common_steps)

pub returns-then-nodes-k : goal.returns-then-nodes-k
unfolding thread_at
returns-then-nodes-k c = grind (arith, common_steps)

pub returns : goal.returns
unfolding thread_at
returns c = grind (arith, common_steps)
