-- Document 01, "Configurations and moves": the order of configurations (lower store number, then fewer threads, then the
-- thread lists from the left) and of moves (label number, then target).
use Rattle.std.specs.Prelude.{Bool, false, cond, List, [], ◌∷◌, ℕ, length, eqb, ltb}
use Rattle.sheets.specs.Sheet.{Configuration}

-- A labelled move of a configuration: a label and a target.
pub record Move : Type 0 where
  pub label : ℕ
  pub target : Configuration

-- first by a number, then by what else tells two apart
abbrev pub first_by : {A : Type 0} → (A → ℕ) → (A → A → Bool) → A → A → Bool
first_by f next a b = cond (eqb (f a) (f b)) (next a b) (ltb (f a) (f b))

-- two lists of equal length, from the left
abbrev pub leftmost : List ℕ → List ℕ → Bool
leftmost [] ys = false
leftmost (x ∷ xs) [] = false
leftmost (x ∷ xs) (y ∷ ys) = cond (eqb x y) (leftmost xs ys) (ltb x y)

abbrev pub by_threads : Configuration → Configuration → Bool
by_threads = first_by (λ p. length p.threads) (λ p q. leftmost p.threads q.threads)

abbrev pub configuration_before : Configuration → Configuration → Bool
configuration_before = first_by (λ p. p.store) by_threads

abbrev pub move_before : Move → Move → Bool
move_before = first_by (λ m. m.label) (λ m k. configuration_before m.target k.target)
