-- What the theorems ask of labelled moves, and no more. Moves of the sheet have it (comparison_laws/SheetMoves); any
-- others that have it are covered too.
use Rattle.std.specs.Prelude.{◌≡◌, ℕ, ◌<◌}
use Rattle.refinement.specs.Refinement.{Transitions}

pub record Lawful (T : Transitions) : Type 1 where
  -- constraints and their order
  pub join : T.Label → T.Label → T.Label
  pub join_constraint : (a b : T.Label) → T.Constraint a → T.Constraint b → T.Constraint (join a b)
  pub least_constraint : T.Constraint T.least
  pub below_refl : (a : T.Label) → T.Constraint a → T.Below a a
  pub below_trans : (a b c : T.Label) → T.Below a b → T.Below b c → T.Below a c
  pub below_antisym : (a b : T.Label) → T.Below a b → T.Below b a → a ≡ b
  -- there is no endless descent
  pub rank : T.Label → ℕ
  pub rank_below : (a b : T.Label) → T.Below a b → (a ≡ b → ⊥) → rank a < rank b
  -- adding
  pub add_add : (a b : T.Label) (p : T.State) → T.add a (T.add b p) ≡ T.add (join a b) p
  pub add_under : (e b : T.Label) (p : T.State) → T.Below b e → T.add e (T.add b p) ≡ T.add e p
  pub add_least : (p : T.State) → T.Of p → T.add T.least p ≡ p
  pub of_add : (e : T.Label) (p : T.State) → T.Constraint e → T.Of p → T.Of (T.add e p)
  -- barbs
  pub barbs_refl : (p : T.State) → T.SameBarbs p p
  pub barbs_sym : (p q : T.State) → T.SameBarbs p q → T.SameBarbs q p
  pub barbs_trans : (p q r : T.State) → T.SameBarbs p q → T.SameBarbs q r → T.SameBarbs p r
  pub barbs_add : (e : T.Label) (p q : T.State) → T.Constraint e → T.SameBarbs p q → T.SameBarbs (T.add e p) (T.add e q)
  -- moves
  pub move_constraint : (p : T.State) (a : T.Label) (t : T.State) → T.Move p a t → T.Constraint a
  pub move_has_label : (p : T.State) (a : T.Label) (t : T.State) → T.Move p a t → T.add a t ≡ t
  pub move_of_lem : (p : T.State) (a : T.Label) (t : T.State) → T.Of p → T.Move p a t → T.Of t
  -- a move with label a is a reduction once a is added
  pub move_sound : (p : T.State) (a : T.Label) (t : T.State) → T.Move p a t → T.Move (T.add a p) T.least t
  -- a reduction stays one when more is added
  pub reduces_more : (p t : T.State) (e : T.Label) → T.Constraint e → T.Move p T.least t → T.Move (T.add e p) T.least (T.add e t)
  -- a reduction with e added comes from a move with a label below e
  pub move_complete : (p t : T.State) (e : T.Label) → T.Constraint e → T.Move (T.add e p) T.least t
      → (a : T.Label) × (u : T.State) × T.Below a e × T.Move p a u × (t ≡ T.add e u)
  -- finitely many moves, and decidable tests
  pub same_label_lem : (a b : T.Label) → Dec (a ≡ b)
  pub below_dec : (a b : T.Label) → Dec (T.Below a b)
  pub barbs_dec : (p q : T.State) → Dec (T.SameBarbs p q)
  pub some_move : (p : T.State) (Q : T.Label → T.State → Type 0) → ((a : T.Label) (t : T.State) → Dec (Q a t))
      → Dec ((a : T.Label) × (t : T.State) × T.Move p a t × Q a t)
  pub every_move : (p : T.State) (Q : T.Label → T.State → Type 0) → ((a : T.Label) (t : T.State) → Dec (Q a t))
      → Dec ((a : T.Label) (t : T.State) → T.Move p a t → Q a t)
