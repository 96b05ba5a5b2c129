-- The notions of document 01, "Configurations and moves" (the set) and "Rounds", over any configurations with labelled
-- moves. The paper's names stand beside them.
use Rattle.std.specs.Prelude.{◌≡◌, ℕ, zero, suc, ◌<◌}
use mathlib.Core.List.{List, Memᴰ}

-- What the notions speak of.
pub record Transitions : Type 1 where
  -- constraints, of which some labels are made
  pub Label : Type 0
  pub Constraint : Label → Type 0
  -- a is below b: b entails a
  pub Below : Label → Label → Type 0
  -- the least constraint, the label of a reduction
  pub least : Label
  -- configurations, in and out of any set
  pub State : Type 0
  pub Of : State → Type 0
  -- a configuration with a constraint added
  pub add : Label → State → State
  -- two configurations that a watcher sees alike before any move: the paper's barbs
  pub SameBarbs : State → State → Type 0
  -- a labelled move
  pub Move : State → Label → State → Type 0

module _ (T : Transitions) where
  open T use {Label, Constraint, Below, least, State, Of, add, SameBarbs, Move}

  -- b entails a and differs from it
  abbrev pub StrictlyBelow : Label → Label → Type 0
  StrictlyBelow a b = Below a b × (a ≡ b → ⊥)

  -- The set of a comparison: the least one that holds the seeds (IS), every target of a member's move (RS), and, where a
  -- member has moves with labels a and b, a strictly below b, the target of the first with b added (RD). The paper's IS*.
  pub data Member (seeds : List State) : State → Type 0 where
    seed : {p : State} → Memᴰ p seeds → Member seeds p
    target : {p t : State} {a : Label} → Member seeds p → Move p a t → Member seeds t
    added : {p u t : State} {a b : Label} → Member seeds p → Move p a u → Move p b t → StrictlyBelow a b → Member seeds (add b u)

  -- A move (b, t) of p is redundant in a relation: p has a move (a, u), a strictly below b, and t is related to u once b is
  -- added. The paper's Definition 6.
  abbrev pub Redundant : (State → State → Type 0) → State → Label → State → Type 0
  Redundant R p b t = (a : Label) × (u : State) × Move p a u × StrictlyBelow a b × R t (add b u)

  -- every irredundant move of p is answered by a move of q with the same label into the relation
  abbrev pub Answered : (State → State → Type 0) → State → State → Type 0
  Answered R p q = (b : Label) (t : State) → Move p b t → (Redundant R p b t → ⊥) → (u : State) × Move q b u × R t u

  -- Round 0 has equal barbs in one class; in round n + 1 two share a class if they share one in round n and every irredundant
  -- move of either is answered by the other into the same class of round n. The paper's IR, with document 01's first condition.
  abbrev pub Round : ℕ → State → State → Type 0
  Round zero p q = SameBarbs p q
  Round (suc n) p q = Round n p q × Answered (Round n) p q × Answered (Round n) q p

  -- for every constraint added to both, each reduction of p is answered by a reduction of q into the relation
  abbrev pub Replies : (State → State → Type 0) → State → State → Type 0
  Replies R p q = (e : Label) → Constraint e → (t : State) → Move (add e p) least t → (u : State) × Move (add e q) least u × R t u

  -- The plain counterpart of the rounds, over all configurations.
  abbrev pub Level : ℕ → State → State → Type 0
  Level zero p q = SameBarbs p q
  Level (suc n) p q = SameBarbs p q × Replies (Level n) p q × Replies (Level n) q p

  -- A watcher can tell two configurations apart in n moves exactly when level n does not hold them.
  abbrev pub TellsApart : ℕ → State → State → Type 0
  TellsApart n p q = Level n p q → ⊥

  -- A saturated barbed bisimulation: a symmetric relation over the configurations whose pairs have equal barbs, answer each
  -- reduction of one by a reduction of the other into the relation, and remain in it under every constraint added to both.
  -- The paper's Definition 3.
  pub record Bisimulation (B : State → State → Type 0) : Type 0 where
    pub over : (x y : State) → B x y → Of x × Of y
    pub symmetric : (x y : State) → B x y → B y x
    pub barbs : (x y : State) → B x y → SameBarbs x y
    pub answers : (x y t : State) → B x y → Move x least t → (u : State) × Move y least u × B t u
    pub adds : (x y : State) (e : Label) → Constraint e → B x y → B (add e x) (add e y)

  -- some saturated barbed bisimulation contains the two as a pair: the paper's ∼sb
  pub record Bisimilar (p q : State) : Type 1 where
    pub relation : State → State → Type 0
    pub is_bisimulation : Bisimulation relation
    pub contains : relation p q

  -- n is the least number at which a family of relations does not hold the two
  pub record FirstApart (R : ℕ → State → State → Type 0) (n : ℕ) (p q : State) : Type 0 where
    pub apart : R n p q → ⊥
    pub together : (m : ℕ) → m < n → R m p q
