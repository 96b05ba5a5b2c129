-- Levels: each is an equivalence, closed under adding, and within the one before. A bisimulation is within every level.
use Rattle.std.proofs.Common.{sym, subst}
use Rattle.std.specs.Prelude.{ℕ, zero, suc}
use Rattle.refinement.specs.Refinement.{Transitions, Replies, Level, Bisimulation}
use Rattle.refinement_laws.specs.LawfulMoves.{Lawful}

module _ (T : Transitions) (L : Lawful T) where
  open T use {Label, Constraint, Below, least, State, Of, add, SameBarbs, Move}

  pub level_barbs : (n : ℕ) (p q : State) → Level T n p q → SameBarbs p q
  level_barbs zero p q h = h
  level_barbs (suc n) p q h = h.0

  pub level_refl : (n : ℕ) (p : State) → Level T n p p
  level_refl zero p = L.barbs_refl p
  level_refl (suc n) p = (L.barbs_refl p, (λ e c t m. (t, m, level_refl n t)), (λ e c t m. (t, m, level_refl n t)))

  pub level_sym : (n : ℕ) (p q : State) → Level T n p q → Level T n q p
  level_sym zero p q h = L.barbs_sym p q h
  level_sym (suc n) p q h = (L.barbs_sym p q h.0, h.2, h.1)

  pub level_trans : (n : ℕ) (p q r : State) → Level T n p q → Level T n q r → Level T n p r
  level_trans zero p q r h k = L.barbs_trans p q r h k
  level_trans (suc n) p q r h k = (
    L.barbs_trans p q r h.0 k.0,
    (λ e c t m. let x = h.1 e c t m in let y = k.1 e c x.0 x.1 in (y.0, y.1, level_trans n t x.0 y.0 x.2 y.2)),
    (λ e c t m. let x = k.2 e c t m in let y = h.2 e c x.0 x.1 in (y.0, y.1, level_trans n t x.0 y.0 x.2 y.2)),
  )

  replies_add : (R : State → State → Type 0) (e : Label) → Constraint e → (p q : State) → Replies T R p q → Replies T R (add e p) (add e q)
  replies_add R e ce p q h f cf t m =
      let x = h (L.join f e) (L.join_constraint f e cf ce) t (subst (λ (s : State). Move s least t) (L.add_add f e p) m) in
      (x.0, subst (λ (s : State). Move s least x.0) (sym (L.add_add f e q)) x.1, x.2)

  pub level_add : (n : ℕ) (e : Label) → Constraint e → (p q : State) → Level T n p q → Level T n (add e p) (add e q)
  level_add zero e ce p q h = L.barbs_add e p q ce h
  level_add (suc n) e ce p q h =
      (L.barbs_add e p q ce h.0, replies_add (Level T n) e ce p q h.1, replies_add (Level T n) e ce q p h.2)

  pub level_down : (n : ℕ) (p q : State) → Level T (suc n) p q → Level T n p q
  level_down zero p q h = h.0
  level_down (suc n) p q h = (
    h.0,
    (λ e c t m. let x = h.1 e c t m in (x.0, x.1, level_down n t x.0 x.2)),
    (λ e c t m. let x = h.2 e c t m in (x.0, x.1, level_down n t x.0 x.2)),
  )

  -- a saturated barbed bisimulation is within every level
  pub bisimulation_level : (B : State → State → Type 0) → Bisimulation T B → (n : ℕ) (p q : State) → B p q → Level T n p q
  bisimulation_level B s zero p q b = s.barbs p q b
  bisimulation_level B s (suc n) p q b = (
    s.barbs p q b,
    (λ e c t m. let x = s.answers (add e p) (add e q) t (s.adds p q e c b) m in (x.0, x.1, bisimulation_level B s n t x.0 x.2)),
    (λ e c t m.
        let x = s.answers (add e q) (add e p) t (s.symmetric (add e p) (add e q) (s.adds p q e c b)) m in
        (x.0, x.1, bisimulation_level B s n t x.0 x.2)),
  )
