-- The same of the nodes of a sheet: each part of a both moves with the other opened beside it, each part of an either moves with
-- the other dropped, and there is no other step.
use Rattle.std.specs.Prelude.{◌≡◌, ◌⊎◌, ℕ, ◌<◌, length}
use Rattle.std.proofs.Common.{sym, ap, ◌∙◌, subst, inl, inr, ⊎_elim}
use mathlib.Core.List.{List, map, Memᴰ}
use Rattle.sheet_laws.specs.Members.{map_mem, mem_map}
use Rattle.moves.specs.Sheet.{Node, both, either, Sheet, node_of, opened}
use Rattle.sheet_laws.specs.Ranks.{Ranked}
use Rattle.moves.specs.Moves.{Step, beside, steps_of, steps}
use Rattle.move_laws.specs.NodeParts.{both_has_first, both_has_second, both_has_only, either_has_first, either_has_second, either_has_only}
use Rattle.move_laws.specs.NestingLaws.{steps_are}

module _ {rank : ℕ → ℕ} (sheet : Sheet) (d : ℕ) (low : Ranked rank sheet.nodes) (k : ℕ) (l : k < length sheet.nodes) (p q : ℕ) where
  abbrev ns : List Node
  ns = sheet.nodes

  -- the steps of a node of this kind
  steps_by : {v : Node} → node_of ns k ≡ v → steps sheet d k ≡ steps_of sheet d (steps sheet d) v
  steps_by e = steps_are sheet d low k l ∙ ap (steps_of sheet d (steps sheet d)) e

  module _ (e : node_of ns k ≡ both p q) where
    -- the first part moves, and the second is opened beside it
    pub both_first : (m : Step) → Memᴰ m (steps sheet d p) → Memᴰ (beside (opened ns q) m) (steps sheet d k)
    both_first m i =
        subst (λ (ms : List Step). Memᴰ (beside (opened ns q) m) ms) (sym (steps_by e))
        (both_has_first sheet d (steps sheet d) p q (map_mem (beside (opened ns q)) i))

    -- the second part moves, and the first is opened beside it
    pub both_second : (m : Step) → Memᴰ m (steps sheet d q) → Memᴰ (beside (opened ns p) m) (steps sheet d k)
    both_second m i =
        subst (λ (ms : List Step). Memᴰ (beside (opened ns p) m) ms) (sym (steps_by e))
        (both_has_second sheet d (steps sheet d) p q (map_mem (beside (opened ns p)) i))

    -- there is no other step
    pub both_only : (m : Step) → Memᴰ m (steps sheet d k)
        → ((s : Step) × Memᴰ s (steps sheet d p) × (m ≡ beside (opened ns q) s))
        ⊎ ((s : Step) × Memᴰ s (steps sheet d q) × (m ≡ beside (opened ns p) s))
    both_only m i =
        ⊎_elim
        (λ (j : Memᴰ m (map (beside (opened ns q)) (steps sheet d p))). inl (mem_map (beside (opened ns q)) (steps sheet d p) j))
        (λ (j : Memᴰ m (map (beside (opened ns p)) (steps sheet d q))). inr (mem_map (beside (opened ns p)) (steps sheet d q) j))
        (both_has_only sheet d (steps sheet d) p q (subst (λ (ms : List Step). Memᴰ m ms) (steps_by e) i))

  module _ (e : node_of ns k ≡ either p q) where
    -- each of its nodes moves, and the other is dropped
    pub either_first : (m : Step) → Memᴰ m (steps sheet d p) → Memᴰ m (steps sheet d k)
    either_first m i =
        subst (λ (ms : List Step). Memᴰ m ms) (sym (steps_by e)) (either_has_first sheet d (steps sheet d) p q i)

    pub either_second : (m : Step) → Memᴰ m (steps sheet d q) → Memᴰ m (steps sheet d k)
    either_second m i =
        subst (λ (ms : List Step). Memᴰ m ms) (sym (steps_by e)) (either_has_second sheet d (steps sheet d) p q i)

    -- there is no other step
    pub either_only : (m : Step) → Memᴰ m (steps sheet d k) → Memᴰ m (steps sheet d p) ⊎ Memᴰ m (steps sheet d q)
    either_only m i = either_has_only sheet d (steps sheet d) p q (subst (λ (ms : List Step). Memᴰ m ms) (steps_by e) i)
