-- `copy_all_aside` stores behind all that the copies read, each member at a place of its own.
use native.Mathlib.Omega.{arith}
use Rattle.set_order.specs.CopyLaws.{aside_kept, aside_more}
use Rattle.set_order.proofs.copy_all_aside.Goals as goal

pub copy_aside-requires : goal.copy_aside-requires
copy_aside-requires c = (aside_kept c.args.n c.loop-j.invariant c.requires (omega arith), omega arith)

pub loop-j-preserved : goal.loop-j-preserved
loop-j-preserved c = aside_more c.args.n c.loop-j.invariant c.requires (omega arith) c.copy_aside.ensures
