-- What the transitions of a sheet are made of: the reductions that levels and bisimulations answer are those of the sheet, and the
-- least of its labels is the least store.
use Rattle.std.specs.Prelude.{◌≡◌, refl, ℕ}
use Rattle.moves.specs.Stores.{least_store}
use Rattle.moves.specs.Sheet.{Configuration, Sheet}
use Rattle.moves.specs.Moves.{Reduces}
use Rattle.comparison.specs.SheetTransitions.{transitions}

module _ (sheet : Sheet) where
  open transitions sheet use {least, Move}

  pub reductions_are : (p t : Configuration) → Move p least t ≡ Reduces sheet p t
  reductions_are p t = refl

  pub least_label_is : least ≡ least_store sheet.rules
  least_label_is = refl
