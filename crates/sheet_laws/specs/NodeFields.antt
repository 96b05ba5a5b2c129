-- The reading of a node in parts: its two-byte fields that are not sets, and its fields without the check of its threads that
-- comes after them.
use Rattle.std.specs.Prelude.{◌≡◌, refl, Bool, List, [], ◌∷◌, ◌++◌, ℕ, length, ltb}
use Rattle.store_laws.specs.Stores.{Rule}
use Rattle.sheet_reading.specs.SheetLimits.{max_threads}
use Rattle.sheet_reading.specs.Sheet.{Node, opened}
use Rattle.sheet_reading.specs.Reading.{Reading, got, and_then, refused_if, word_at, unused, below, kind_at, first_at, second_at, node_from, node_at}
use Rattle.sheet_laws.specs.RecordLaws.{then_regroup}

-- a field that is not used
unfoldable pub unused_at : List ℕ → ℕ → Reading ℕ
unused_at s at = and_then (word_at s at) (λ x next. unused x at next)

-- the number of a node below a bound
unfoldable pub below_at : ℕ → List ℕ → ℕ → Reading ℕ
below_at bound s at = and_then (word_at s at) (λ k next. below bound k at next)

-- kind, first and second field of the node with this number
unfoldable pub node_fields_at : ℕ → List Rule → ℕ → ℕ → List ℕ → ℕ → Reading Node
node_fields_at facts rules nodes number s at =
    and_then (kind_at s at) (λ kind p.
    and_then (first_at kind facts number s p) (λ first q.
    and_then (second_at kind nodes number s q) (λ second next. got (node_from rules kind first second) next)))

-- more than eight threads
abbrev pub opens_to_many : List Node → Node → Bool
opens_to_many read n = ltb max_threads (length (opened (read ++ (n ∷ [])) (length read)))

-- a node is its fields, then the check of its threads
pub node_checked : (facts : ℕ) (rules : List Rule) (nodes : ℕ) (s : List ℕ) (read : List Node) (at : ℕ)
    → node_at facts rules nodes s read at
    ≡ and_then (node_fields_at facts rules nodes (length read) s at) (λ n next. refused_if (opens_to_many read n) 15 at (got n next))
unfolding node_at node_fields_at
node_checked facts rules nodes s read at =
    then_regroup (kind_at s at) _ _ _ (λ kind p.
    then_regroup (first_at kind facts (length read) s p) _ _ _ (λ first q.
    then_regroup (second_at kind nodes (length read) s q) _ _ _ (λ second next. refl)))
