-- Document 01, "Facts and stores". Rules, closure, constraint, join, entailment, the least store. The paper's constraint
-- system (Definition 1): the closed sets, ordered by inclusion.
use Rattle.std.specs.Prelude.{Bool, true, false, cond, not, ◌&&◌, ℕ, zero, suc, ◌^◌, ◌<◌, eqb}
use mathlib.Core.List.{List, [], ◌∷◌, Memᴰ}
use Rattle.std.specs.Int.Bits.{bit_and, bit_or}
use Rattle.stores.specs.FactSets.{Within}

-- A store with all facts of the premise has all facts of the conclusion.
pub record Rule : Type 0 where
  pub premise : ℕ
  pub conclusion : ℕ

-- c includes a, as a test: each fact of a is in c
abbrev pub includes : ℕ → ℕ → Bool
includes c a = eqb (bit_and a c) a

-- s obeys the rule
pub record Obeys (r : Rule) (s : ℕ) : Type 0 where
  pub follows : Within r.premise s → Within r.conclusion s

-- s obeys every rule
pub record Closed (rs : List Rule) (s : ℕ) : Type 0 where
  pub obeys : (r : Rule) → Memᴰ r rs → Obeys r s

-- c is the smallest superset of s that obeys every rule
pub record Smallest (rs : List Rule) (s c : ℕ) : Type 0 where
  pub above : Within s c
  pub closed : Closed rs c
  pub least : (t : ℕ) → Closed rs t → Within s t → Within c t

-- s with the rule's conclusion added where it has the premise
abbrev pub fire : Rule → ℕ → ℕ
fire r s = cond (includes s r.premise) (bit_or s r.conclusion) s

-- s after each rule once, in their order
unfoldable pub pass : List Rule → ℕ → ℕ
pass [] s = s
pass (r ∷ rs) s = pass rs (fire r s)

-- all conclusions together
unfoldable pub conclusions : List Rule → ℕ
conclusions [] = 0
conclusions (r ∷ rs) = bit_or r.conclusion (conclusions rs)

-- passes until one changes nothing, at most n of them
unfoldable pub passes : ℕ → List Rule → ℕ → ℕ
passes zero rs s = s
passes (suc n) rs s = elim (eqb (pass rs s) s) [ true ↦ s | false ↦ passes n rs (pass rs s) ]

-- The closure of a set: the smallest superset that obeys every rule (`closure_smallest` proves it). Each pass that changes
-- the set adds a part of the conclusions to its number, so this many passes are enough.
unfoldable pub closure : List Rule → ℕ → ℕ
closure rs s = passes (suc (conclusions rs)) rs s

-- A constraint of a sheet with n facts: a closed set of those facts. A store is a constraint.
pub record Constraint (n : ℕ) (rs : List Rule) (c : ℕ) : Type 0 where
  pub closed : Closed rs c
  pub facts : c < 2 ^ n

-- Joining two constraints: the closure of their union.
abbrev pub join : List Rule → ℕ → ℕ → ℕ
join rs a b = closure rs (bit_or a b)

-- One constraint entails another when it includes it.
abbrev pub entails : ℕ → ℕ → Bool
entails d c = includes d c

-- a strictly below b: b entails a and differs from it
abbrev pub strictly_below : ℕ → ℕ → Bool
strictly_below a b = entails b a && not (eqb a b)

-- The least store, the paper's `true`: the closure of nothing, which every constraint includes. Document 02, card 2, has it in
-- the place of document 01's empty set: a rule with an empty premise gives facts that always stand. Where no premise is empty it is
-- store 0 (`least_store_empty`).
abbrev pub least_store : List Rule → ℕ
least_store rs = closure rs 0
