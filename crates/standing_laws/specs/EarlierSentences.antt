-- What document 01 says of store 0 and label 0 ("Facts and stores", "Configurations and moves") holds of every sheet without an empty
-- premise.
use Rattle.std.specs.Prelude.{◌≡◌, List, [], ◌∷◌, ℕ}
use Rattle.std.proofs.Common.{ap}
use Rattle.comparison_laws.specs.Stores.{join, least_store}
use Rattle.comparison_laws.specs.StoreLaws.{least_store_empty}
use Rattle.comparison_laws.specs.Sheet.{tell, Configuration, Sheet}
use Rattle.comparison_laws.specs.Moves.{Step, steps_of, Moves, Reduces}
use Rattle.comparison_laws.specs.SheetTransitions.{transitions}
use Rattle.standing_laws.specs.EarlierSheets.{NoneStands, transitions_from, earlier_transitions}

module _ (sheet : Sheet) (none : NoneStands sheet.rules) where
  -- nothing stands: the least store has no fact
  pub least_is_empty : least_store sheet.rules ≡ 0
  least_is_empty = least_store_empty sheet.rules none

  -- a tell has one step, labelled 0
  pub tell_has_label_zero : (d c : ℕ) (inner : ℕ → List Step)
      → steps_of sheet d inner (tell c) ≡ record { label = 0; store = join sheet.rules d c; threads = [] } ∷ []
  tell_has_label_zero d c inner = ap told least_is_empty
    where
      told : ℕ → List Step
      told a = record { label = a; store = join sheet.rules d c; threads = [] } ∷ []

  -- reductions are the moves labelled 0
  pub reduction_has_label_zero : (p t : Configuration) → Reduces sheet p t ≡ Moves sheet p 0 t
  reduction_has_label_zero p t = ap (λ (a : ℕ). Moves sheet p a t) least_is_empty

  -- levels, bisimulations and rounds are over the same transitions
  pub transitions_as_before : transitions sheet ≡ earlier_transitions sheet
  transitions_as_before = ap (λ (a : ℕ). transitions_from a sheet) least_is_empty
