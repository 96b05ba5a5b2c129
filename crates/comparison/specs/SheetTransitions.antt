-- The configurations and moves of a sheet as labelled transitions: what the watcher's levels and the saturated barbed
-- bisimulations of document 01 ("Rounds", the plain counterpart) range over.
use Rattle.std.specs.Prelude.{◌≡◌, ℕ}
use Rattle.moves.specs.FactSets.{Within}
use Rattle.moves.specs.Stores.{Constraint, least_store}
use Rattle.moves.specs.Sheet.{Configuration, Sheet}
use Rattle.sheet_reading.specs.WellFormed.{OfSheet}
use Rattle.moves.specs.Moves.{Moves, add}
use Rattle.refinement.specs.Refinement.{Transitions}

-- A configuration of the sheet is any store with any process; a watcher adds constraints of the sheet; equal barbs are equal
-- stores; a reduction is a move with the least store as its label.
abbrev pub transitions : Sheet → Transitions
transitions sheet = record {
  Label = ℕ;
  Constraint = Constraint sheet.facts sheet.rules;
  Below = Within;
  least = least_store sheet.rules;
  State = Configuration;
  Of = OfSheet sheet;
  add = add sheet;
  SameBarbs = λ p q. p.store ≡ q.store;
  Move = Moves sheet;
}
