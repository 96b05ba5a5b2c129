-- `id_at` lends the part and reads the id there.
use Rattle.member_table.specs.TableInPart.{part_fits, lent_kept, lent_id}
use native.Mathlib.Omega.{arith}
use Rattle.member_table.proofs.id_at.Goals as goal

pub slice_bounds-id_in-end : goal.slice_bounds-id_in-end
slice_bounds-id_in-end c = omega (arith, part_fits c.args.work.now c.args.base c.args.n c.requires.0)

pub id_in-requires : goal.id_in-requires
id_in-requires c = (lent_kept c.args.work.now c.args.base c.args.n c.requires.0, c.requires.1)

pub returns : goal.returns
returns c = lent_id c.args.work.now c.args.base c.args.n c.args.j c.id_in.result c.id_in.ensures
