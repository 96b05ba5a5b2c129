-- `place_ids` stores each place by the id that stands there, and no two places have one id.
use native.Mathlib.Omega.{arith}
use Rattle.set_order.specs.CopyLaws.{ids_kept, ids_more}
use Rattle.set_order.proofs.place_ids.Goals as goal

pub id_at-id-requires : goal.id_at-id-requires
id_at-id-requires c = (ids_kept c.args.n c.loop-j.invariant c.requires.1 (omega arith), omega arith)

pub loop-j-preserved : goal.loop-j-preserved
loop-j-preserved c =
    let p = c.id_at-id in
    ids_more c.args.n c.loop-j.invariant c.requires.1 (omega arith) c.requires.0 p.result p.ensures.0
