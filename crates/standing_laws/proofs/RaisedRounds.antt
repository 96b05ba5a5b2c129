-- Of two sheets of which one moves as the other does with z in every store and label, the rounds over a set are the rounds over the set
-- with z in every store.
use Rattle.std.specs.Prelude.{◌≡◌, Bool, not, ◌&&◌, ◌||◌, length, eqb}
use Rattle.std.proofs.Math.Path.{refl, ap, ap₂}
use Rattle.std.proofs.Common.{◌∙◌}
use Rattle.std.proofs.Math.Bool.{true, false}
use mathlib.Core.List.{List, [], ◌∷◌, map}
use Prim.Native.Nat.{ℕ, zero, suc}
use Rattle.std.proofs.lemmas.List.{length-map}
use Rattle.comparison_laws.specs.Lists.{any, all, same_numbers}
use Rattle.comparison_laws.specs.ImageLaws.{any_image, all_image}
use Rattle.comparison_laws.specs.Stores.{strictly_below}
use Rattle.comparison_laws.specs.Sheet.{Configuration, Sheet}
use Rattle.comparison_laws.specs.Orders.{Move}
use Rattle.comparison_laws.specs.Moves.{moves, add}
use Rattle.comparison_laws.specs.Classes.{share}
use Rattle.comparison_laws.specs.Rounds.{stores_equal, redundant, answers, answered, together, refined, classes, rounds_from, rounds, apart_in}
use Rattle.comparison_laws.specs.ClassLaws.{position_same}
use Rattle.standing_laws.specs.StandingFacts.{raised, raised_configuration, raised_move}
use Rattle.standing_laws.proofs.RaisedSheets.{RaisedBy, AllIn}
use Rattle.standing_laws.proofs.RaisedLists.{numbered_image, equal_raised, share_raised}

-- the round that separates two configurations, whatever the rounds are
pub apart_raised : (z : ℕ) (set : List Configuration) (rs : List (List ℕ)) (p q : Configuration)
    → apart_in (map (raised_configuration z) set) rs (raised_configuration z p) (raised_configuration z q) ≡ apart_in set rs p q
apart_raised z set rs p q =
    position_same (λ cs. not (share (map (raised_configuration z) set) cs (raised_configuration z p) (raised_configuration z q)))
    (λ cs. not (share set cs p q)) rs (λ cs m. ap not (share_raised z set cs p q))

module _ {z : ℕ} {In : ℕ → Type 0} {low high : Sheet} (R : RaisedBy z In low high) (set : List Configuration) where
  -- ---- one move
  pub redundant_raised : (cs : List ℕ) (p : Configuration) (m : Move) → In p.store → In m.label
      → redundant high (map (raised_configuration z) set) cs (raised_configuration z p) (raised_move z m) ≡ redundant low set cs p m
  redundant_raised cs p m i h =
      ap (any passes) (R.moves_raised p i)
      ∙ any_image (raised_move z) passes (λ k. strictly_below k.label m.label && share set cs m.target (add low m.label k.target))
      (moves low p)
      (λ k j.
      let w = R.moves_in p i k j in
      ap₂ ◌&&◌ (R.below_raised k.label m.label w.0 h)
      (ap (share (map (raised_configuration z) set) cs (raised_configuration z m.target)) (R.add_raised m.label k.target h w.1)
      ∙ share_raised z set cs m.target (add low m.label k.target)))
    where
      passes : Move → Bool
      passes k =
          strictly_below k.label (raised z m.label)
          && share (map (raised_configuration z) set) cs (raised_configuration z m.target) (add high (raised z m.label) k.target)

  pub answers_raised : (cs : List ℕ) (q : Configuration) (m : Move) → In q.store
      → answers high (map (raised_configuration z) set) cs (raised_configuration z q) (raised_move z m) ≡ answers low set cs q m
  answers_raised cs q m i =
      ap (any passes) (R.moves_raised q i)
      ∙ any_image (raised_move z) passes (λ k. eqb k.label m.label && share set cs m.target k.target) (moves low q)
      (λ k j. ap₂ ◌&&◌ (equal_raised z k.label m.label) (share_raised z set cs m.target k.target))
    where
      passes : Move → Bool
      passes k =
          eqb k.label (raised z m.label) && share (map (raised_configuration z) set) cs (raised_configuration z m.target) k.target

  -- ---- one round
  answered_raised : (cs : List ℕ) (p q : Configuration) → In p.store → In q.store
      → answered high (map (raised_configuration z) set) cs (raised_configuration z p) (raised_configuration z q) ≡ answered low set cs p q
  answered_raised cs p q i j =
      ap (all passes) (R.moves_raised p i)
      ∙ all_image (raised_move z) passes (λ m. redundant low set cs p m || answers low set cs q m) (moves low p)
      (λ m k. ap₂ ◌||◌ (redundant_raised cs p m i (R.moves_in p i m k).0) (answers_raised cs q m j))
    where
      passes : Move → Bool
      passes m =
          redundant high (map (raised_configuration z) set) cs (raised_configuration z p) m
          || answers high (map (raised_configuration z) set) cs (raised_configuration z q) m

  together_raised : (cs : List ℕ) (p q : Configuration) → In p.store → In q.store
      → together high (map (raised_configuration z) set) cs (raised_configuration z p) (raised_configuration z q) ≡ together low set cs p q
  together_raised cs p q i j =
      ap₂ ◌&&◌ (share_raised z set cs p q) (ap₂ ◌&&◌ (answered_raised cs p q i j) (answered_raised cs q p j i))

  module _ (allIn : AllIn In set) where
    pub refined_raised : (cs : List ℕ) → refined high (map (raised_configuration z) set) cs ≡ refined low set cs
    unfolding refined
    refined_raised cs =
        numbered_image (raised_configuration z) (together high (map (raised_configuration z) set) cs) (together low set cs) set
        (λ p q m k. together_raised cs p q (allIn p m) (allIn q k))

    pub classes_raised : (n : ℕ) → classes high (map (raised_configuration z) set) n ≡ classes low set n
    unfolding classes
    classes_raised zero =
        numbered_image (raised_configuration z) (stores_equal high (map (raised_configuration z) set)) (stores_equal low set) set
        (λ p q m k. equal_raised z p.store q.store)
    classes_raised (suc n) = ap (refined high (map (raised_configuration z) set)) (classes_raised n) ∙ refined_raised (classes low set n)

    -- ---- every round
    rounds_from_raised : (n : ℕ) (now : List ℕ) → rounds_from high (map (raised_configuration z) set) n now ≡ rounds_from low set n now
    unfolding rounds_from
    rounds_from_raised zero now = refl
    rounds_from_raised (suc n) now =
        let next : refined high (map (raised_configuration z) set) now ≡ refined low set now = refined_raised now in
        let more : rounds_from high (map (raised_configuration z) set) n (refined high (map (raised_configuration z) set) now)
        ≡ rounds_from low set n (refined low set now) =
        ap (rounds_from high (map (raised_configuration z) set) n) next ∙ rounds_from_raised n (refined low set now) in
        λ i. elim (same_numbers (next i) now) [ true ↦ now ∷ [] | false ↦ now ∷ more i ]

    pub rounds_raised : rounds high (map (raised_configuration z) set) ≡ rounds low set
    unfolding rounds
    rounds_raised =
        ap₂ (rounds_from high (map (raised_configuration z) set)) (length-map set (raised_configuration z)) (classes_raised 0)
        ∙ rounds_from_raised (length set) (classes low set 0)
