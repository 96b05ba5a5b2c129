-- Document 01, "Rounds": the classes after each round, over the members of a set that is given as a list.
use Rattle.std.specs.Prelude.{Bool, true, false, not, ◌&&◌, ◌||◌, List, [], ◌∷◌, ℕ, zero, suc, ◌-◌, length, eqb}
use Rattle.moves.specs.Lists.{any, all, same_numbers}
use Rattle.moves.specs.Stores.{strictly_below}
use Rattle.moves.specs.Sheet.{Configuration, Sheet}
use Rattle.moves.specs.Orders.{Move}
use Rattle.moves.specs.Moves.{moves, add}
use Rattle.comparison.specs.Classes.{position, numbered, share}

module _ (sheet : Sheet) (set : List Configuration) where
  -- round 0 puts members with equal stores in one class
  abbrev pub stores_equal : Configuration → Configuration → Bool
  stores_equal p q = eqb p.store q.store

  -- p's move m is redundant in the classes: p has a move with a label strictly below, and m's target shares a class with that
  -- move's target after m's label is added
  abbrev pub redundant : List ℕ → Configuration → Move → Bool
  redundant classes p m =
      any (λ k. strictly_below k.label m.label && share set classes m.target (add sheet m.label k.target)) (moves sheet p)

  -- q has a move with m's label into the class of m's target
  abbrev pub answers : List ℕ → Configuration → Move → Bool
  answers classes q m = any (λ k. eqb k.label m.label && share set classes m.target k.target) (moves sheet q)

  -- every irredundant move of p is answered by q
  abbrev pub answered : List ℕ → Configuration → Configuration → Bool
  answered classes p q = all (λ m. redundant classes p m || answers classes q m) (moves sheet p)

  -- p and q share a class in the next round
  abbrev pub together : List ℕ → Configuration → Configuration → Bool
  together classes p q = share set classes p q && (answered classes p q && answered classes q p)

  -- the next round
  unfoldable pub refined : List ℕ → List ℕ
  refined classes = numbered (together classes) set

  -- the classes of round n
  unfoldable pub classes : ℕ → List ℕ
  classes zero = numbered stores_equal set
  classes (suc n) = refined (classes n)

  -- the classes of this round and of those after it, to the first round that is equal to its successor; at most n rounds more
  unfoldable pub rounds_from : ℕ → List ℕ → List (List ℕ)
  rounds_from zero now = now ∷ []
  rounds_from (suc n) now =
      let next = refined now in
      elim (same_numbers next now) [ true ↦ now ∷ [] | false ↦ now ∷ rounds_from n next ]

  -- the classes of every round up to the result's
  unfoldable pub rounds : List (List ℕ)
  rounds = rounds_from (length set) (classes 0)

-- The number of the result's round: the first round equal to its successor.
abbrev pub result_of : List (List ℕ) → ℕ
result_of rs = length rs - 1

-- the first of these rounds that has p and q in different classes; their count where none has
abbrev pub apart_in : List Configuration → List (List ℕ) → Configuration → Configuration → ℕ
apart_in set rs p q = position (λ classes. not (share set classes p q)) rs
