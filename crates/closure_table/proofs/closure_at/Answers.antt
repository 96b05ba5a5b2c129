-- `closure_at` reads the entry at the set's place and cuts it to 16 digits.
use mathlib.Core.Path.{refl}
use Rattle.closure_table.specs.ClosureTable.{entry_read}
use Rattle.closure_table.proofs.closure_at.Goals as goal

pub returns : goal.returns
returns c =
    let g = c.args in
    entry_read g.work.now g.s _ refl
