-- Source 001, Tables 1 and 2 without R5 and LR5 (hiding), each rule a constructor with the paper's premises. The rules that
-- the tables omit as symmetric stand here too.
use Rattle.std.specs.Prelude.{◌≡◌, ℕ}
use Rattle.comparison_laws.specs.FactSets.{Within}
use Rattle.comparison_laws.specs.Stores.{Constraint, join, least_store}
use Rattle.comparison_laws.specs.Sheet.{Sheet}
use Rattle.paper.specs.Terms.{Term, nil, tell, ask, parallel, choice, call, defined}

module _ (s : Sheet) where
  -- Table 1: a process at a store reduces to a process at a store.
  pub data Reduction : Term → ℕ → Term → ℕ → Type 0 where
    R1 : (c d : ℕ) → Reduction (tell c) d nil (join s.rules d c)
    R2 : (c d : ℕ) (p : Term) → Within c d → Reduction (ask c p) d p d
    R3_left : {p p' q : Term} {d d' : ℕ} → Reduction p d p' d' → Reduction (parallel p q) d (parallel p' q) d'
    R3_right : {p q q' : Term} {d d' : ℕ} → Reduction q d q' d' → Reduction (parallel p q) d (parallel p q') d'
    R4_left : {p p' q : Term} {d d' : ℕ} → Reduction p d p' d' → Reduction (choice p q) d p' d'
    R4_right : {p q q' : Term} {d d' : ℕ} → Reduction q d q' d' → Reduction (choice p q) d q' d'
    R6 : {k : ℕ} {p' : Term} {d d' : ℕ} → Reduction (defined s k) d p' d' → Reduction (call k) d p' d'

  -- a is minimal among all constraints that, joined with d, entail c: the premise of LR2
  pub record Minimal (d c a : ℕ) : Type 0 where
    pub constraint : Constraint s.facts s.rules a
    pub entails : Within c (join s.rules d a)
    pub minimal : (b : ℕ) → Constraint s.facts s.rules b → Within c (join s.rules d b) → Within b a × (b ≡ a → ⊥) → ⊥

  -- Table 2: the same with a label, what the environment has to add.
  pub data Transition : Term → ℕ → ℕ → Term → ℕ → Type 0 where
    LR1 : (c d : ℕ) → Transition (tell c) d (least_store s.rules) nil (join s.rules d c)
    LR2 : (c d a : ℕ) (p : Term) → Minimal d c a → Transition (ask c p) d a p (join s.rules d a)
    LR3_left : {p p' q : Term} {d a d' : ℕ} → Transition p d a p' d' → Transition (parallel p q) d a (parallel p' q) d'
    LR3_right : {p q q' : Term} {d a d' : ℕ} → Transition q d a q' d' → Transition (parallel p q) d a (parallel p q') d'
    LR4_left : {p p' q : Term} {d a d' : ℕ} → Transition p d a p' d' → Transition (choice p q) d a p' d'
    LR4_right : {p q q' : Term} {d a d' : ℕ} → Transition q d a q' d' → Transition (choice p q) d a q' d'
    LR6 : {k : ℕ} {p' : Term} {d a d' : ℕ} → Transition (defined s k) d a p' d' → Transition (call k) d a p' d'
