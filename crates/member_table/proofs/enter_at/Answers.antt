-- `enter_at` lends the part, and all else of the slice stays as it was.
use Rattle.packing.specs.Packing.{stands_for}
use Rattle.member_table.specs.TableInPart.{part_fits, lent_kept, entry_part}
use native.Mathlib.Omega.{arith}
use Rattle.member_table.proofs.enter_at.Goals as goal

pub slice_bounds-enter-end : goal.slice_bounds-enter-end
slice_bounds-enter-end c = omega (arith, part_fits c.args.work.now c.args.base c.args.n c.requires.0)

pub enter-requires : goal.enter-requires
enter-requires c =
    let g = c.args in
    (lent_kept g.work.now g.base g.n c.requires.0, c.requires.1, c.requires.2, c.requires.3)

pub returns : goal.returns
returns c =
    let g = c.args in
    let r = c.enter in
    entry_part g.work.now r.new.work g.base g.n g.limit (stands_for g.x) r.result (part_fits g.work.now g.base g.n c.requires.0)
    r.auto.work r.ensures
