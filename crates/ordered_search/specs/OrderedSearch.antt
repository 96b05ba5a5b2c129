-- Document 02, card 5: the search for the labels of an ask. Every set of the sheet's facts comes up once, fewer facts first and the lower
-- number on a tie. A set that includes a label found before is skipped; any other is counted, and is a label where it is closed and
-- makes the asked set true.
use Rattle.std.specs.Prelude.{Bool, cond, ◌&&◌, ◌||◌, List, [], ◌∷◌, ◌++◌, ℕ, zero, suc, ◌+◌, ◌^◌, eqb, ltb}
use Rattle.moves.specs.Lists.{select, any, concat_map}
use Rattle.moves.specs.FactSets.{digit}
use Rattle.moves.specs.Stores.{closure, includes}
use Rattle.moves.specs.Sheet.{Sheet}
use Rattle.moves.specs.Moves.{count_up, makes_true}

-- how many of the first n facts a set has
unfoldable pub fact_count : ℕ → ℕ → ℕ
fact_count zero s = 0
fact_count (suc i) s = digit s i + fact_count i s

-- of two sets of n facts s comes up before t: it has fewer facts, or as many and the lower number
abbrev pub comes_first : ℕ → ℕ → ℕ → Bool
comes_first n s t = ltb (fact_count n s) (fact_count n t) || (eqb (fact_count n s) (fact_count n t) && ltb s t)

-- the sets of n facts that have k of them, in ascending order
abbrev pub sets_of_size : ℕ → ℕ → List ℕ
sets_of_size n k = select (λ s. eqb (fact_count n s) k) (count_up 0 (2 ^ n))

-- the sets of n facts that have fewer than k of them: fewer facts first, and of those with as many the lower number first
unfoldable pub candidates_below : ℕ → ℕ → List ℕ
candidates_below n k = concat_map (sets_of_size n) (count_up 0 k)

-- every set of n facts, in that order
abbrev pub candidates : ℕ → List ℕ
candidates n = candidates_below n (suc n)

-- What the search has: the labels in the order in which they were found, and how many sets were not skipped.
pub record Search : Type 0 where
  pub found : List ℕ
  pub tried : ℕ

abbrev pub begun : Search
begun = record { found = []; tried = 0 }

-- a set includes a label that was found
abbrev pub is_covered : List ℕ → ℕ → Bool
is_covered found s = any (λ b. includes s b) found

-- a set is closed, that is its own closure, and makes c true at store d
abbrev pub qualifies : Sheet → ℕ → ℕ → ℕ → Bool
qualifies sheet d c s = eqb (closure sheet.rules s) s && makes_true sheet d c s

-- one set comes up
abbrev pub try_next : Sheet → ℕ → ℕ → Search → ℕ → Search
try_next sheet d c so s =
    cond (is_covered so.found s) so
    (record { found = cond (qualifies sheet d c s) (so.found ++ (s ∷ [])) so.found; tried = suc so.tried })

-- the sets of a list come up one after the other
unfoldable pub search_over : Sheet → ℕ → ℕ → Search → List ℕ → Search
search_over sheet d c so [] = so
search_over sheet d c so (s ∷ ss) = search_over sheet d c (try_next sheet d c so s) ss

-- the search through the sets with fewer than k facts, and the whole
abbrev pub search_below : Sheet → ℕ → ℕ → ℕ → Search
search_below sheet d c k = search_over sheet d c begun (candidates_below sheet.facts k)

abbrev pub label_search : Sheet → ℕ → ℕ → Search
label_search sheet d c = search_over sheet d c begun (candidates sheet.facts)
