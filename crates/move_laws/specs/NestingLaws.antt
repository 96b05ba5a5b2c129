-- No step and no thread is lost by a bound on how deep nodes lie inside each other: on a sheet whose nodes are ranked, what a node
-- opens to and its steps are those that its kind says, made from its parts.
use Rattle.std.specs.Prelude.{◌≡◌, List, length}
use Rattle.std.proofs.Math.Path.{refl}
use Rattle.std.proofs.Common.{◌∙◌, arith}
use Prim.Native.Nat.{ℕ, zero, suc, ◌<◌}
use Rattle.moves.specs.Sheet.{Node, stop, tell, ask, both, either, Sheet, node_of, opening_of, open_within, opened}
use Rattle.sheet_laws.specs.Ranks.{OfParts, Part, Ranked, parts_map}
use Rattle.sheet_laws.proofs.OpeningLaws.{opening_enough}
use Rattle.moves.specs.Moves.{Step, steps_of, steps_within, steps}

opening_step : (ns : List Node) (n k : ℕ) → open_within (suc n) ns k ≡ opening_of (open_within n ns) k (node_of ns k)
unfolding open_within
opening_step ns n k = refl

-- what node k opens to is what its kind says
pub opened_is : {rank : ℕ → ℕ} (ns : List Node) → Ranked rank ns → (k : ℕ) → k < length ns → opened ns k ≡ opening_of (opened ns) k (node_of ns k)
opened_is ns low k l =
    let h = low.small k l in
    opening_enough ns low (length ns) (suc (length ns)) k h (omega arith) ∙ opening_step ns (length ns) k

module _ (sheet : Sheet) (d : ℕ) where
  -- only the steps of the parts matter
  steps_same : (inner other : ℕ → List Step) (v : Node) → OfParts (λ j. inner j ≡ other j) v → steps_of sheet d inner v ≡ steps_of sheet d other v
  steps_same inner other stop h = refl
  steps_same inner other (tell c) h = refl
  steps_same inner other (ask c q) h = refl
  steps_same inner other (both p q) h =
      let first : inner p ≡ other p = h.0 in
      let second : inner q ≡ other q = h.1 in
      cc
  steps_same inner other (either p q) h =
      let first : inner p ≡ other p = h.0 in
      let second : inner q ≡ other q = h.1 in
      cc

  -- any number of nodes above the rank of k will do
  steps_enough : {rank : ℕ → ℕ} → Ranked rank sheet.nodes → (f g k : ℕ) → rank k < f → rank k < g
      → steps_within f sheet d k ≡ steps_within g sheet d k
  unfolding steps_within
  steps_enough low zero g k a b = absurd (omega arith)
  steps_enough low (suc f) zero k a b = absurd (omega arith)
  steps_enough {rank} low (suc f) (suc g) k a b =
      steps_same (steps_within f sheet d) (steps_within g sheet d) (node_of sheet.nodes k)
      (parts_map (Part rank (length sheet.nodes) k) (λ j. steps_within f sheet d j ≡ steps_within g sheet d j)
      (λ j l. steps_enough low f g j (omega (arith, l.lower)) (omega (arith, l.lower))) (node_of sheet.nodes k) (low.parts k))

  steps_step : (n k : ℕ) → steps_within (suc n) sheet d k ≡ steps_of sheet d (steps_within n sheet d) (node_of sheet.nodes k)
  unfolding steps_within
  steps_step n k = refl

  -- the steps of node k are those that its kind says
  pub steps_are : {rank : ℕ → ℕ} → Ranked rank sheet.nodes → (k : ℕ) → k < length sheet.nodes
      → steps sheet d k ≡ steps_of sheet d (steps sheet d) (node_of sheet.nodes k)
  steps_are low k l =
      let h = low.small k l in
      steps_enough low (length sheet.nodes) (suc (length sheet.nodes)) k h (omega arith) ∙ steps_step (length sheet.nodes) k
