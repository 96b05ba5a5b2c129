-- Redundancy without closures. Where a member has the moves (b, t) and (a, u), a strictly below b, adding b to u gives t's
-- store exactly when u's store is within t's.
use Rattle.std.specs.Prelude.{◌≡◌, refl, ◌↔◌, ℕ, ◌^◌, ◌<◌}
use Rattle.std.proofs.Common.{sym, ap, subst}
use Rattle.comparison_laws.specs.FactSets.{Within}
use Rattle.comparison_laws.specs.FactSetLaws.{within_trans, within_antisym}
use Rattle.work_layout.specs.Stores.{Closed, conclusions, join, least_store}
use Rattle.comparison_laws.specs.StoreLaws.{join_left, join_right, join_least, join_closed, least_within}
use Rattle.comparison_laws.specs.Sheet.{Configuration, Sheet}
use Rattle.comparison_laws.specs.Moves.{Moves, add}
use Rattle.comparison_laws.specs.MoveLaws.{carry_move, move_labelled}

module _ (sheet : Sheet) (fit : conclusions sheet.rules < 2 ^ sheet.facts) where
  -- stores only grow along moves
  pub move_grows : (p : Configuration) (a : ℕ) (t : Configuration) → Moves sheet p a t → Within p.store t.store
  move_grows p a t h =
      (carry_move sheet p.store p.store (λ _ _. Unit {0}) (λ a s _ _. Within p.store s)
      (λ k c q _. join_left sheet.rules p.store c)
      (λ c a m _. (a, m, join_left sheet.rules p.store a))
      p.threads a t h tt).4

  -- a move with any label but the least joins that label and nothing else
  pub move_joins : (p : Configuration) (a : ℕ) (t : Configuration) → (a ≡ least_store sheet.rules → ⊥) → Moves sheet p a t
      → t.store ≡ join sheet.rules p.store a
  move_joins p a t d h =
      (carry_move sheet p.store p.store (λ l _. l ≡ least_store sheet.rules → ⊥) (λ a s _ _. s ≡ join sheet.rules p.store a)
      (λ k c q g. absurd (g refl))
      (λ c a m g. (a, m, refl))
      p.threads a t h d).4

  -- a label with another strictly below it is not the least
  pub above_not_least : (a b : ℕ) → Closed sheet.rules a → Within a b → (a ≡ b → ⊥) → b ≡ least_store sheet.rules → ⊥
  above_not_least a b c w d e = d (within_antisym w (subst (λ (x : ℕ). Within x a) (sym e) (least_within sheet.rules a c)))

  module _ (p : Configuration) (a b : ℕ) (u t : Configuration) (first : Moves sheet p a u) (second : Moves sheet p b t)
      (below : Within a b × (a ≡ b → ⊥)) where
    pub added_store : Within u.store t.store ↔ (join sheet.rules b u.store ≡ t.store)
    added_store = (
      (λ w. within_antisym
          (join_least sheet.rules b u.store t.store (move_labelled sheet fit p b t second).closed
          (move_labelled sheet fit p b t second).inside w)
          (subst (λ (s : ℕ). Within s (join sheet.rules b u.store)) (sym (move_joins p b t not_least second))
          (join_least sheet.rules p.store b (join sheet.rules b u.store) (join_closed sheet.rules b u.store)
          (within_trans (move_grows p a u first) (join_right sheet.rules b u.store))
          (join_left sheet.rules b u.store)))),
      (λ e. subst (λ (s : ℕ). Within u.store s) e (join_right sheet.rules b u.store)),
    )
      where
        not_least : b ≡ least_store sheet.rules → ⊥
        not_least = above_not_least a b (move_labelled sheet fit p a u first).constraint.closed below.0 below.1

    -- then the addition has t's store and u's threads
    pub added_is : Within u.store t.store → add sheet b u ≡ record { store = t.store; threads = u.threads }
    added_is w = ap (λ (s : ℕ). record { store = s; threads = u.threads }) (added_store.0 w)
