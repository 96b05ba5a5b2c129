-- The sentences of document 01, "Configurations and moves" (the set) and "Rounds", read off the definitions one by one.
use Rattle.std.specs.Prelude.{List, ℕ, suc}
use Rattle.refinement.specs.Refinement.{Transitions, StrictlyBelow, Member, added, Redundant, Answered, Round, Replies, Level}

module _ (T : Transitions) where
  open T use {Label, Constraint, least, State, add, SameBarbs, Move}

  -- where a member has moves with labels a and b, a strictly below b, the set has the target of the first with b added
  pub third_rule : {seeds : List State} {p u t : State} {a b : Label} → Member T seeds p → Move p a u → Move p b t → StrictlyBelow T a b
      → Member T seeds (add b u)
  third_rule m x y l = added m x y l

  -- a move is redundant where its target is related to that of a move with a label strictly below, once its own label is added
  pub redundant_by : (R : State → State → Type 0) (p : State) (b : Label) (t : State) (a : Label) (u : State) → Move p a u → StrictlyBelow T a b
      → R t (add b u) → Redundant T R p b t
  redundant_by R p b t a u m l r = (a, u, m, l, r)

  -- two that share a class in round n + 1 share one in round n
  pub round_keeps : (n : ℕ) (p q : State) → Round T (suc n) p q → Round T n p q
  round_keeps n p q h = h.0

  -- and answer each other's irredundant moves into the classes of round n
  pub round_answers : (n : ℕ) (p q : State) → Round T (suc n) p q → Answered T (Round T n) p q × Answered T (Round T n) q p
  round_answers n p q h = (h.1, h.2)

  -- a level asks for equal barbs and, for every constraint added to both, replies into the level below
  pub level_replies : (n : ℕ) (p q : State) → SameBarbs p q → Replies T (Level T n) p q → Replies T (Level T n) q p → Level T (suc n) p q
  level_replies n p q s a b = (s, a, b)
