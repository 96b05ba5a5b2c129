-- Which steps a both and an either have, from those of their parts: nothing missing and nothing added. The paper's LR3 and LR4
-- with their symmetric rules.
use Rattle.std.specs.Prelude.{◌⊎◌, ℕ}
use mathlib.Core.List.Memᴰ
use mathlib.Core.List.{List, map, Memᴰ}
use Rattle.moves.specs.Sheet.{Node, both, either, Sheet, opened}
use Rattle.moves.specs.Moves.{Step, beside, steps_of}

module _ (sheet : Sheet) (d : ℕ) (inner : ℕ → List Step) (p q : ℕ) where
  -- the steps of a both's first part, the second opened beside it, and the other way round
  abbrev pub first_steps : List Step
  first_steps = map (beside (opened sheet.nodes q)) (inner p)

  abbrev pub second_steps : List Step
  second_steps = map (beside (opened sheet.nodes p)) (inner q)

  pub both_has_first : {m : Step} → Memᴰ m first_steps → Memᴰ m (steps_of sheet d inner (both p q))
  both_has_first i = Memᴰ.append_left second_steps i

  pub both_has_second : {m : Step} → Memᴰ m second_steps → Memᴰ m (steps_of sheet d inner (both p q))
  both_has_second i = Memᴰ.append_right first_steps i

  pub both_has_only : {m : Step} → Memᴰ m (steps_of sheet d inner (both p q)) → Memᴰ m first_steps ⊎ Memᴰ m second_steps
  both_has_only i = Memᴰ.append_cases first_steps i

  pub either_has_first : {m : Step} → Memᴰ m (inner p) → Memᴰ m (steps_of sheet d inner (either p q))
  either_has_first i = Memᴰ.append_left (inner q) i

  pub either_has_second : {m : Step} → Memᴰ m (inner q) → Memᴰ m (steps_of sheet d inner (either p q))
  either_has_second i = Memᴰ.append_right (inner p) i

  pub either_has_only : {m : Step} → Memᴰ m (steps_of sheet d inner (either p q)) → Memᴰ m (inner p) ⊎ Memᴰ m (inner q)
  either_has_only i = Memᴰ.append_cases (inner p) i
