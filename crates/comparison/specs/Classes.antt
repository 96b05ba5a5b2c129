-- Document 01, "The report": classes as numbers, one for each member in the order of the set, numbered from 0 by first
-- member.
use Rattle.std.specs.Prelude.{Bool, cond, not, ◌&&◌, List, [], ◌∷◌, ◌++◌, ℕ, suc, length, get_or, eqb, ltb}
use Rattle.moves.specs.Sheet.{Configuration}
use Rattle.moves.specs.Lists.{arrange}
use Rattle.moves.specs.Orders.{configuration_before}

module _ {A : Type 0} where
  -- the place of the first element that passes; the length where none does
  abbrev pub position : (A → Bool) → List A → ℕ
  position test [] = 0
  position test (x ∷ xs) = let later = suc (position test xs) in cond (test x) 0 later

  -- A class's number is the place of its first member among the first members of classes.
  unfoldable pub numbered_from : (A → A → Bool) → List A → List A → List ℕ
  numbered_from together firsts [] = []
  numbered_from together firsts (p ∷ ps) =
      let k = position (λ f. together f p) firsts in
      k ∷ numbered_from together (cond (eqb k (length firsts)) (firsts ++ (p ∷ [])) firsts) ps

  abbrev pub numbered : (A → A → Bool) → List A → List ℕ
  numbered together set = numbered_from together [] set

-- the two are one configuration
abbrev pub same_configuration : Configuration → Configuration → Bool
same_configuration p q = not (configuration_before p q) && not (configuration_before q p)

-- the place of p in the set
abbrev pub place_of : List Configuration → Configuration → ℕ
place_of set p = position (same_configuration p) set

-- the class of p, where `classes` has those of the set's members
abbrev pub class_of : List Configuration → List ℕ → Configuration → ℕ
class_of set classes p = get_or classes (place_of set p) 0

-- p and q share a class
abbrev pub share : List Configuration → List ℕ → Configuration → Configuration → Bool
share set classes p q = eqb (class_of set classes p) (class_of set classes q)

-- how many classes these numbers stand for (document 02, card 13): each number counts once
abbrev pub class_total : List ℕ → ℕ
class_total numbers = length (arrange ltb numbers)
