-- Rows for the search: the order of all sets of three facts, and what is found and counted on document 01's sheet K, on sheets with several
-- labels, and with a fact that always stands; one statement proves them all.
use Rattle.std.specs.Prelude.{◌≡◌, refl, true, false, List, [], ◌∷◌, ℕ}
use Rattle.moves.specs.FactSets.{digit}
use Rattle.moves.specs.Stores.{Rule, closure, passes, pass, conclusions}
use Rattle.moves.specs.Sheet.{Sheet}
use Rattle.ordered_search.specs.OrderedSearch.{fact_count, comes_first, candidates_below, candidates, search_over, label_search}

abbrev rule : ℕ → ℕ → Rule
rule p c = record { premise = p; conclusion = c }

-- so many facts and these rules
abbrev sheet : ℕ → List Rule → Sheet
sheet n rs = record { facts = n; rules = rs; nodes = []; starts = [] }

-- three facts, and fact 1 gives fact 0: the rules of sheet K
abbrev rules_of_k : List Rule
rules_of_k = rule 2 1 ∷ []

-- fact 0 is given by facts 1 and 2 together, and by fact 3
abbrev several_ways : List Rule
several_ways = rule 6 1 ∷ rule 8 1 ∷ []

-- what is found, in the order in which it came up, and behind it how many sets were not skipped
abbrev searched : Sheet → ℕ → ℕ → List ℕ
searched s d c = let r = label_search s d c in r.tried ∷ r.found

pub known_searches : (candidates 3 ≡ (0 ∷ 1 ∷ 2 ∷ 4 ∷ 3 ∷ 5 ∷ 6 ∷ 7 ∷ []))
    -- K: fact 0 asked for at store 0; fact 1, which closes to 3, is no label beside it
    × (searched (sheet 3 rules_of_k) 0 1 ≡ (5 ∷ 1 ∷ []))
    -- K: fact 1 asked for at store 1: the label is 3, found when 3 itself comes up
    × (searched (sheet 3 rules_of_k) 1 2 ≡ (7 ∷ 3 ∷ []))
    -- K: nothing asked for
    × (searched (sheet 3 rules_of_k) 0 0 ≡ (1 ∷ 0 ∷ []))
    -- four facts, at store 2: fact 0 itself, or fact 2, which gives it there
    × (searched (sheet 4 several_ways) 2 1 ≡ (6 ∷ 1 ∷ 4 ∷ []))
    -- fact 2 always stands: sets without it come up and count
    × (searched (sheet 3 (rule 0 4 ∷ [])) 4 2 ≡ (7 ∷ 6 ∷ []))
    -- three labels with as many facts
    × (searched (sheet 4 (rule 3 8 ∷ rule 5 8 ∷ [])) 1 8 ≡ (5 ∷ 2 ∷ 4 ∷ 8 ∷ []))
    -- fewer facts first, and the lower number on a tie
    × (comes_first 3 4 3 ≡ true) × (comes_first 3 2 4 ≡ true) × (comes_first 3 4 2 ≡ false)
unfolding digit closure passes pass conclusions fact_count candidates_below search_over
known_searches = (refl, refl, refl, refl, refl, refl, refl, refl, refl, refl)
