-- `key_of` lends the part and reads the three numbers there.
use Rattle.member_table.specs.TableInPart.{part_fits, lent_kept, lent_key}
use native.Mathlib.Omega.{arith}
use Rattle.member_table.proofs.key_of.Goals as goal

pub slice_bounds-key_in-end : goal.slice_bounds-key_in-end
slice_bounds-key_in-end c = omega (arith, part_fits c.args.work.now c.args.base c.args.n c.requires.0)

pub key_in-requires : goal.key_in-requires
key_in-requires c = (lent_kept c.args.work.now c.args.base c.args.n c.requires.0, c.requires.1)

pub returns : goal.returns
returns c =
    lent_key c.args.work.now c.args.base c.args.n c.args.id c.key_in.result
    c.requires.0 c.requires.1 c.key_in.ensures
