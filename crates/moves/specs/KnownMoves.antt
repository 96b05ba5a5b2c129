-- Labels and moves of small sheets, a row each: what the definitions give, and what document 01, "Configurations and moves", says.
-- One statement proves them all. The starred cases are in comparison/KnownCases.
use Rattle.std.specs.Prelude.{refl, Bool, List, [], ◌∷◌, map, ℕ, ◌^◌, length, T}
use mathlib.Core.List.Memᴰ
use Rattle.sheets.specs.Lists.{all, concat_map, same_numbers}
use Rattle.sheets.specs.Stores.{Rule, closure, passes, pass, conclusions}
use Rattle.sheets.specs.Sheet.{Node, stop, tell, ask, both, either, Sheet, open_within}
use Rattle.moves.specs.Moves.{count_up, labels, steps_within, moves, Reduces}

-- what the definitions give, and what document 01 says, as numbers
pub record MoveRow : Type 0 where
  pub computed : List ℕ
  pub wanted : List ℕ

-- the two are the same
abbrev pub row_right : MoveRow → Bool
row_right r = same_numbers r.computed r.wanted

abbrev row : List ℕ → List ℕ → MoveRow
row a b = record { computed = a; wanted = b }

-- a sheet with so many facts, these rules and nodes
abbrev sheet : ℕ → List Rule → List Node → Sheet
sheet facts rules nodes = record { facts = facts; rules = rules; nodes = nodes; starts = [] }

-- a rule
abbrev gives : ℕ → ℕ → Rule
gives premise conclusion = record { premise = premise; conclusion = conclusion }

-- the moves of a node alone at a store: label, store, thread count and threads of each
abbrev moves_at : Sheet → ℕ → ℕ → List ℕ
moves_at s store k =
    concat_map (λ m. m.label ∷ m.target.store ∷ length m.target.threads ∷ m.target.threads)
    (moves s (record { store = store; threads = k ∷ [] }))

-- the closures of all sets of its facts
abbrev closures : Sheet → List ℕ
closures s = map (closure s.rules) (count_up 0 (2 ^ s.facts))

-- its labels
abbrev labels_at : Sheet → ℕ → ℕ → List ℕ
labels_at s store k = map (λ m. m.label) (moves s (record { store = store; threads = k ∷ [] }))

-- a both inside an either (node 5), and inside another both in an either (node 7); its tells are 1, 2 and 4
abbrev inside : Sheet
inside = sheet 3 [] (stop ∷ tell 1 ∷ tell 2 ∷ tell 4 ∷ both 1 2 ∷ either 4 3 ∷ both 4 3 ∷ either 6 0 ∷ [])

-- Document 02, card 2: nothing gives fact 0, which gives fact 1, and nothing gives nothing. The least store is 3, and every constraint
-- includes it. Node 0 tells 4, node 1 asks 4, node 2 asks 2, node 3 asks 4 and 8.
abbrev standing : Sheet
standing = sheet 4 (gives 1 2 ∷ gives 0 0 ∷ gives 0 1 ∷ []) (tell 7 ∷ ask 7 4 ∷ ask 3 4 ∷ ask 15 4 ∷ stop ∷ [])

-- the rows
abbrev pub move_rows : List MoveRow
move_rows =
    -- set 1 gives 2: a label is closed
    row (labels_at (sheet 2 (gives 1 2 ∷ []) (ask 3 1 ∷ stop ∷ [])) 0 0) (3 ∷ [])
    -- 3 gives 4, and 9 gives 4: at store 1 any of 2, 4 and 8 makes 4 true
    ∷ row (labels_at (sheet 4 (gives 3 4 ∷ gives 9 4 ∷ []) (ask 4 1 ∷ stop ∷ [])) 1 0) (2 ∷ 4 ∷ 8 ∷ [])
    -- what the store has already is asked of nobody
    ∷ row (labels_at (sheet 2 [] (ask 3 1 ∷ stop ∷ [])) 1 0) (2 ∷ [])
    -- a both inside an either. Node 5: 1 moves beside 2, 2 beside 1, or 3 alone
    ∷ row (moves_at inside 0 5) (0 ∷ 1 ∷ 1 ∷ 2 ∷ 0 ∷ 2 ∷ 1 ∷ 1 ∷ 0 ∷ 4 ∷ 0 ∷ [])
    -- inside another both. Node 7: each of the three moves beside the other two
    ∷ row (moves_at inside 0 7) (0 ∷ 1 ∷ 2 ∷ 2 ∷ 3 ∷ 0 ∷ 2 ∷ 2 ∷ 1 ∷ 3 ∷ 0 ∷ 4 ∷ 2 ∷ 1 ∷ 2 ∷ [])
    -- facts that always stand are in every closure
    ∷ row (closures standing) (3 ∷ 3 ∷ 3 ∷ 3 ∷ 7 ∷ 7 ∷ 7 ∷ 7 ∷ 11 ∷ 11 ∷ 11 ∷ 11 ∷ 15 ∷ 15 ∷ 15 ∷ 15 ∷ [])
    -- a tell has the least store as its label; an ask has a label that includes it, and of what the store has already the least store alone
    ∷ row (moves_at standing 3 0) (3 ∷ 7 ∷ 0 ∷ [])
    ∷ row (moves_at standing 3 1) (7 ∷ 7 ∷ 0 ∷ [])
    ∷ row (moves_at standing 3 2) (3 ∷ 3 ∷ 0 ∷ [])
    ∷ row (moves_at standing 7 3) (11 ∷ 15 ∷ 0 ∷ [])
    ∷ []

pub moves_right : T (all row_right move_rows)
unfolding closure passes pass conclusions moves steps_within labels open_within
moves_right = tt

-- a tell reduces, and so does an ask of what the store has
pub tell_reduces : Reduces standing (record { store = 3; threads = 0 ∷ [] }) (record { store = 7; threads = [] })
unfolding closure passes pass conclusions moves steps_within labels open_within
tell_reduces = Memᴰ.head refl

pub ask_reduces : Reduces standing (record { store = 3; threads = 2 ∷ [] }) (record { store = 3; threads = [] })
unfolding closure passes pass conclusions moves steps_within labels open_within
ask_reduces = Memᴰ.head refl
