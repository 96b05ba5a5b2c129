-- The moves with the labels of an ask, read off a slice that begins with a table of closures.
use Rattle.std.specs.Prelude.{List, map, ℕ, ◌%◌, ◌^◌, ◌≤◌, ◌<◌, get_or}
use Rattle.std.specs.Int.Bits.{bit_or}
use Rattle.packing.specs.Orders.{Move}
use Rattle.walk_state.specs.AskLabels.{part}
use Rattle.collected_moves.specs.WorkLayout.{lists_at, lists_end}
use Rattle.sheet_types.specs.SheetLimits.{max_facts}

-- the move with label a from store d to these threads
abbrev pub label_move : List ℕ → ℕ → List ℕ → ℕ → Move
label_move w d ts a = record { label = a; target = record { store = get_or w (bit_or d a) 0 % 65536; threads = ts } }

-- the moves with the labels that stand from `from` on, before `end`
abbrev pub label_moves : List ℕ → ℕ → List ℕ → ℕ → ℕ → List Move
label_moves w d ts from end = map (label_move w d ts) (part w from end)

-- sets of the facts stand among the labels from `from` on, before `end`, and d is one too
pub record LabelsStand (w : List ℕ) (facts d from end : ℕ) : Type 0 where
  pub few : facts ≤ max_facts
  pub store : d < 2 ^ facts
  pub low : lists_at ≤ from
  pub order : from ≤ end
  pub high : end ≤ lists_end
  pub small : (i : ℕ) → from ≤ i → i < end → get_or w i 0 < 2 ^ facts
