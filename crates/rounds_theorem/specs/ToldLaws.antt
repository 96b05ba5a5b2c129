-- What a watcher tells apart in at most k moves is what round k has apart, and no two members part after round k exactly when it splits
-- none of them.
use Rattle.std.specs.Prelude.{◌↔◌, List, ℕ, suc, ◌≤◌}
use Rattle.std.proofs.Common.{arith}
use Rattle.answers.specs.Sheet.{Configuration, Sheet}
use Rattle.answers.specs.WellFormed.{WellFormed}
use Rattle.answers.specs.Refinement.{Transitions, Member, Round}
use Rattle.call_theorem.specs.RoundLevels.{round_dec, round_level, always_together}
use Rattle.call_theorem.specs.StableRounds.{Stable, stable_always}
use Rattle.answers.specs.SheetTransitions.{transitions}
use Rattle.call_theorem.specs.SheetMoves.{lawful}
use Rattle.call_theorem.specs.EarlierRounds.{round_earlier}
use Rattle.after_rounds.specs.AfterRoundsPromise.{ToldBy, NeverTold, NonePart}

-- what is told by so many moves is told by more
pub told_later : {sheet : Sheet} {k n : ℕ} {p q : Configuration} → k ≤ n → ToldBy sheet k p q → ToldBy sheet n p q
told_later le t = record { moves = t.moves; few = omega (arith, le, t.few); apart = t.apart }

module _ (sheet : Sheet) (wf : WellFormed sheet) where
  abbrev T : Transitions
  T = transitions sheet

  -- two that are told apart by then are not together in that round
  pub told_apart : (k : ℕ) (p q : Configuration) → ToldBy sheet k p q → Round T k p q → ⊥
  told_apart k p q t h = t.apart ((round_level T (lawful sheet wf) t.moves p q).0 (round_earlier T k t.moves p q t.few h))

  -- and the other way round
  pub apart_told : (k : ℕ) (p q : Configuration) → (Round T k p q → ⊥) → ToldBy sheet k p q
  apart_told k p q n = record { moves = k; few = omega arith; apart = λ h. n ((round_level T (lawful sheet wf) k p q).1 h) }

  -- two that are not told apart by then are together in that round
  pub untold_together : (k : ℕ) (p q : Configuration) → (ToldBy sheet k p q → ⊥) → Round T k p q
  untold_together k p q n = go (round_dec T (lawful sheet wf) k p q)
    where
      go : Dec (Round T k p q) → Round T k p q
      go (yes h) = h
      go (no h) = absurd (n (apart_told k p q h))

  module _ (seeds : List Configuration) where
    -- members that are together in a round that splits no member are never told apart
    pub stable_never : (k : ℕ) → Stable T (lawful sheet wf) seeds k → (x y : Configuration) → Member T seeds x → Member T seeds y → Round T k x y
        → NeverTold sheet x y
    stable_never k st x y mx my h = (always_together T (lawful sheet wf) x y).0 (stable_always T (lawful sheet wf) seeds k st x y mx my h)

    -- no two members part after round k exactly when it splits none of them
    pub none_part : (k : ℕ) → Stable T (lawful sheet wf) seeds k ↔ NonePart sheet seeds k
    none_part k = (
      (λ st x y mx my n. stable_never k st x y mx my (untold_together k x y n)),
      (λ f x y mx my h. (always_together T (lawful sheet wf) x y).1 (f x y mx my (λ t. told_apart k x y t h)) (suc k)),
    )
