-- Document 01, "Configurations and moves", with the least store of document 02, card 2, in the place of label 0: labels, labelled moves,
-- reductions. The paper's rules LR1 to LR4 (and R1 to R4 for reductions), up to the order of threads and stop.
use Rattle.std.specs.Prelude.{Bool, not, ◌&&◌, ℕ, zero, suc, ◌^◌, length, eqb}
use mathlib.Core.List.{List, [], ◌∷◌, ◌++◌, map, Memᴰ}
use Rattle.sheets.specs.Lists.{select, any, arrange, sort_up}
use Rattle.sheets.specs.Stores.{closure, join, entails, strictly_below, least_store}
use Rattle.sheets.specs.Sheet.{Node, stop, tell, ask, both, either, Configuration, Sheet, node_of, opened}
use Rattle.moves.specs.Orders.{Move, move_before}

-- k numbers from b on
abbrev pub count_up : ℕ → ℕ → List ℕ
count_up b zero = []
count_up b (suc k) = b ∷ count_up (suc b) k

-- a set is closed, as a test: it is its own closure
abbrev pub is_closed : Sheet → ℕ → Bool
is_closed sheet a = eqb (closure sheet.rules a) a

-- every constraint of the sheet, in ascending order
abbrev pub constraints : Sheet → List ℕ
constraints sheet = select (is_closed sheet) (count_up 0 (2 ^ sheet.facts))

-- no candidate that passes is strictly below a
abbrev pub is_minimal : (ℕ → Bool) → List ℕ → ℕ → Bool
is_minimal passes candidates a = passes a && not (any (λ b. passes b && strictly_below b a) candidates)

-- d joined with a entails c
abbrev pub makes_true : Sheet → ℕ → ℕ → ℕ → Bool
makes_true sheet d c a = entails (join sheet.rules d a) c

-- The labels of an ask of c at store d: every minimal constraint that makes c true there. There may be several.
unfoldable pub labels : Sheet → ℕ → ℕ → List ℕ
labels sheet d c = let candidates = constraints sheet in select (is_minimal (makes_true sheet d c) candidates) candidates

-- A move of one thread alone: its label, the store after it, and the threads that replace it.
pub record Step : Type 0 where
  pub label : ℕ
  pub store : ℕ
  pub threads : List ℕ

-- the same step with more threads beside it
abbrev pub beside : List ℕ → Step → Step
beside ts m = record { label = m.label; store = m.store; threads = m.threads ++ ts }

-- The steps of a node at store d, where `inner` gives those of the nodes it is made of. tell: the least store as label, the thread
-- gone (LR1). ask: one step for each label (LR2). both: one part moves and the other is opened beside it (LR3). either: the
-- moves of each of its nodes, the other dropped (LR4).
abbrev pub steps_of : Sheet → ℕ → (ℕ → List Step) → Node → List Step
steps_of sheet d inner stop = []
steps_of sheet d inner (tell c) = record { label = least_store sheet.rules; store = join sheet.rules d c; threads = [] } ∷ []
steps_of sheet d inner (ask c q) =
    map (λ a. record { label = a; store = join sheet.rules d a; threads = opened sheet.nodes q }) (labels sheet d c)
steps_of sheet d inner (both p q) = map (beside (opened sheet.nodes q)) (inner p) ++ map (beside (opened sheet.nodes p)) (inner q)
steps_of sheet d inner (either p q) = inner p ++ inner q

-- the steps of node k, through at most n nodes, one inside the other
unfoldable pub steps_within : ℕ → Sheet → ℕ → ℕ → List Step
steps_within zero sheet d k = []
steps_within (suc n) sheet d k = steps_of sheet d (steps_within n sheet d) (node_of sheet.nodes k)

abbrev pub steps : Sheet → ℕ → ℕ → List Step
steps sheet d k = steps_within (length sheet.nodes) sheet d k

-- the move of a configuration whose other threads remain, in ascending order
abbrev pub move_of : List ℕ → Step → Move
move_of rest m = record { label = m.label; target = record { store = m.store; threads = sort_up (m.threads ++ rest) } }

-- Several threads: one moves, the rest remain. Those passed already stand before.
abbrev pub moves_from : Sheet → ℕ → List ℕ → List ℕ → List Move
moves_from sheet d passed [] = []
moves_from sheet d passed (t ∷ ts) = map (move_of (passed ++ ts)) (steps sheet d t) ++ moves_from sheet d (passed ++ (t ∷ [])) ts

-- The labelled moves of a configuration, in their order; equal ones are one move.
unfoldable pub moves : Sheet → Configuration → List Move
moves sheet p = arrange move_before (moves_from sheet p.store [] p.threads)

-- p has a move with this label to this target
abbrev pub Moves : Sheet → Configuration → ℕ → Configuration → Type 0
Moves sheet p a t = Memᴰ (record { label = a; target = t }) (moves sheet p)

-- A reduction is a move with the least store as its label.
abbrev pub Reduces : Sheet → Configuration → Configuration → Type 0
Reduces sheet p t = Moves sheet p (least_store sheet.rules) t

-- Adding a constraint to a configuration: the configuration with the joined store.
abbrev pub add : Sheet → ℕ → Configuration → Configuration
add sheet e p = record { store = join sheet.rules e p.store; threads = p.threads }
