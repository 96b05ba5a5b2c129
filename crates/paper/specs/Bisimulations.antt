-- Source 001, sections 2 and 3: barbs and Definitions 2 to 7, over the paper's configurations of a sheet, as they are printed.
use Rattle.std.specs.Prelude.{◌≡◌, ℕ}
use Rattle.comparison_laws.specs.FactSets.{Within}
use Rattle.comparison_laws.specs.Stores.{Constraint, join}
use Rattle.comparison_laws.specs.Sheet.{Sheet}
use Rattle.paper.specs.Terms.{Term, Conf}
use Rattle.paper.specs.Tables.{Reduction, Transition}

module _ (s : Sheet) where
  -- The constraints of the sheet: the paper's finite elements, all there are here.
  abbrev pub Con : ℕ → Type 0
  Con = Constraint s.facts s.rules

  -- x satisfies the barb c: its store entails c
  abbrev pub Barb : Conf → ℕ → Type 0
  Barb x c = Within c x.store

  abbrev pub Reduces : Conf → Conf → Type 0
  Reduces x t = Reduction s x.term x.store t.term t.store

  abbrev pub Moves : Conf → ℕ → Conf → Type 0
  Moves x a t = Transition s x.term x.store a t.term t.store

  -- x with a constraint joined to its store
  abbrev pub with_added : ℕ → Conf → Conf
  with_added a x = record { term = x.term; store = join s.rules x.store a }

  -- A symmetric relation on configurations, whose stores are constraints.
  pub record Symmetric (R : Conf → Conf → Type 0) : Type 0 where
    pub over : (x y : Conf) → R x y → Con x.store × Con y.store
    pub symmetric : (x y : Conf) → R x y → R y x

  -- (i) of Definitions 2, 3, 4 and 7: each barb of the one is one of the other
  abbrev pub KeepsBarbs : (Conf → Conf → Type 0) → Type 0
  KeepsBarbs R = (x y : Conf) → R x y → (c : ℕ) → Con c → Barb x c → Barb y c

  -- (ii) of Definitions 2 and 3: each reduction of the one is answered by the other
  abbrev pub KeepsReductions : (Conf → Conf → Type 0) → Type 0
  KeepsReductions R = (x y x' : Conf) → R x y → Reduces x x' → (y' : Conf) × Reduces y y' × R x' y'

  -- Definition 2
  pub record BarbedBisimulation (R : Conf → Conf → Type 0) : Type 0 where
    pub relation : Symmetric R
    pub barbs : KeepsBarbs R
    pub reductions : KeepsReductions R

  -- Definition 3
  pub record SaturatedBarbedBisimulation (R : Conf → Conf → Type 0) : Type 0 where
    pub relation : Symmetric R
    pub barbs : KeepsBarbs R
    pub reductions : KeepsReductions R
    -- (iii) upward closed
    pub upward : (x y : Conf) → R x y → (a : ℕ) → Con a → R (with_added a x) (with_added a y)

  -- Definition 4
  pub record SyntacticBisimulation (R : Conf → Conf → Type 0) : Type 0 where
    pub relation : Symmetric R
    pub barbs : KeepsBarbs R
    pub transitions : (x y : Conf) (a : ℕ) (x' : Conf) → R x y → Moves x a x' → (y' : Conf) × Moves y a y' × R x' y'

  -- Definition 5: a transition with label a into t derives one with label b into u, for some constraint e: b is a joined
  -- with e, u is t with e joined to its store, and the labels differ.
  pub record Derives (a : ℕ) (t : Conf) (b : ℕ) (u : Conf) : Type 0 where
    pub e : ℕ
    pub constraint : Con e
    pub label : b ≡ join s.rules a e
    pub target : u ≡ with_added e t
    pub differ : a ≡ b → ⊥

  -- Definition 6: of two transitions of x, that with label a into t dominates that with label b into u in R: it derives one
  -- with label b whose target is in R with u.
  pub record Dominates (R : Conf → Conf → Type 0) (a : ℕ) (t : Conf) (b : ℕ) (u : Conf) : Type 0 where
    pub between : Conf
    pub derives : Derives a t b between
    pub related : R between u

  -- a transition of x is redundant in R: another transition of x dominates it
  pub record RedundantIn (R : Conf → Conf → Type 0) (x : Conf) (b : ℕ) (u : Conf) : Type 0 where
    pub label : ℕ
    pub target : Conf
    pub transition : Moves x label target
    pub dominates : Dominates R label target b u

  -- Definition 7
  pub record IrredundantBisimulation (R : Conf → Conf → Type 0) : Type 0 where
    pub relation : Symmetric R
    pub barbs : KeepsBarbs R
    pub transitions : (x y : Conf) (a : ℕ) (x' : Conf) → R x y → Moves x a x' → (RedundantIn R x a x' → ⊥)
        → (y' : Conf) × Moves y a y' × R x' y'

  -- Some relation of a kind contains the two as a pair.
  pub record Related (Kind : (Conf → Conf → Type 0) → Type 0) (x y : Conf) : Type 1 where
    pub relation : Conf → Conf → Type 0
    pub is_such : Kind relation
    pub contains : relation x y

  -- the paper's ∼b, ∼sb, ∼s and ∼I
  abbrev pub BarbedBisimilar : Conf → Conf → Type 1
  BarbedBisimilar = Related BarbedBisimulation

  abbrev pub SaturatedBarbedBisimilar : Conf → Conf → Type 1
  SaturatedBarbedBisimilar = Related SaturatedBarbedBisimulation

  abbrev pub SyntacticBisimilar : Conf → Conf → Type 1
  SyntacticBisimilar = Related SyntacticBisimulation

  abbrev pub IrredundantBisimilar : Conf → Conf → Type 1
  IrredundantBisimilar = Related IrredundantBisimulation
