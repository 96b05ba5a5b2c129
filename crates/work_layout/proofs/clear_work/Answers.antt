-- The first numbers are the fill, and those behind them are as they were.
use mathlib.Core.Path.{◌∙◌, ap}
use mathlib.Core.List.{◌++◌, List}
use Prim.Native.Nat.{ℕ}
use lib.ListN.{replicate, drop}
use Rattle.std.proofs.lemmas.List.{length-take-le}
use Rattle.work_layout.specs.WorkLayout.{work_end}
use Rattle.work_layout.proofs.clear_work.Goals as goal

pub returns : goal.returns
returns c =
    let w : List ℕ = c.args.work.now in
    ap (λ (t : List ℕ). t ++ drop work_end w) (c.fill.ensures.after (λ y h. h))
    ∙ ap (λ (n : ℕ). replicate n 0 ++ drop work_end w) (length-take-le work_end w c.requires)
