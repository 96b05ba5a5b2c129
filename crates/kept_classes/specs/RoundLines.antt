-- The next round by lines, and what a round has settled for good: over any labelled moves that obey the laws.
use Rattle.std.specs.Prelude.{◌↔◌, ℕ, suc, ◌≤◌}
use Rattle.comparison_laws.specs.Refinement.{Transitions, StrictlyBelow, Redundant, Answered, Round}
use Rattle.comparison_laws.specs.LawfulMoves.{Lawful}
use Rattle.comparison_laws.specs.RoundLevels.{class_lines_same, round_sym}
use Rattle.comparison_laws.specs.EarlierRounds.{round_earlier}

module _ (T : Transitions) where
  open T use {Label, State, add, Move}

  -- every line of p is one of q: label, and class of the target, of an irredundant move
  abbrev pub LinesIn : (State → State → Type 0) → State → State → Type 0
  LinesIn R p q =
      (b : Label) (t : State) → Move p b t → (Redundant T R p b t → ⊥) → (u : State) × Move q b u × R t u × (Redundant T R q b u → ⊥)

  pub lines_answered : (R : State → State → Type 0) (p q : State) → LinesIn R p q → Answered T R p q
  lines_answered R p q h b t m r = let x = h b t m r in (x.0, x.1, x.2)

  -- two that share a class in round n share one in the next exactly when they have the same lines
  pub round_lines : Lawful T → (n : ℕ) (p q : State)
      → Round T (suc n) p q ↔ (Round T n p q × LinesIn (Round T n) p q × LinesIn (Round T n) q p)
  round_lines L n p q = (
    (λ h. (h.0, class_lines_same T L n p q h, class_lines_same T L n q p (round_sym T L n p q h.0, h.2, h.1))),
    (λ h. (h.0, lines_answered (Round T n) p q h.1, lines_answered (Round T n) q p h.2)),
  )

  -- two that are apart stay apart
  pub still_apart : (n m : ℕ) (p q : State) → n ≤ m → (Round T n p q → ⊥) → Round T m p q → ⊥
  still_apart n m p q l f h = f (round_earlier T m n p q l h)

  -- (a, u) makes the move (b, t) redundant in round n
  abbrev pub Dominates : ℕ → Label → State → Label → State → Type 0
  Dominates n a u b t = StrictlyBelow T a b × Round T n t (add b u)

  -- one that does not never will
  pub never_dominates : (n m : ℕ) (a b : Label) (u t : State) → n ≤ m → (Dominates n a u b t → ⊥) → Dominates m a u b t → ⊥
  never_dominates n m a b u t l f h = f (h.0, round_earlier T m n t (add b u) l h.1)

  -- a move that is irredundant stays so
  pub still_irredundant : (n m : ℕ) (p : State) (b : Label) (t : State) → n ≤ m → (Redundant T (Round T n) p b t → ⊥)
      → Redundant T (Round T m) p b t → ⊥
  still_irredundant n m p b t l f h = f (h.0, h.1, h.2, h.3, round_earlier T m n t (add b h.1) l h.4)
