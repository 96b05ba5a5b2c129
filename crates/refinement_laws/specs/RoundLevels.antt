-- Rounds are levels. Every move is dominated by an irredundant one, and the moves that matter are enough for the watcher.
use Rattle.std.specs.Prelude.{◌≡◌, refl, ◌↔◌, ℕ, zero, suc, ◌<◌}
use Rattle.std.proofs.Common.{sym, ap, ◌∙◌, subst, arith}
use Rattle.list_laws.specs.TestLaws.{not_dec, both_dec, when_dec}
use Rattle.refinement.specs.Refinement.{Transitions, StrictlyBelow, Redundant, Answered, Round, Replies, Level, FirstApart, TellsApart}
use Rattle.refinement_laws.specs.LawfulMoves.{Lawful}
use Rattle.refinement_laws.specs.LevelLaws.{level_barbs, level_refl, level_sym, level_trans, level_add, level_down}

module _ (T : Transitions) (L : Lawful T) where
  open T use {Label, Constraint, Below, least, State, Of, add, SameBarbs, Move}

  -- ---- moves of a configuration with a constraint added
  -- sound: a move whose label is below e is a reduction once e is added
  pub added_sound : (p : State) (a : Label) (t : State) (e : Label) → Constraint e → Move p a t → Below a e → Move (add e p) least (add e t)
  added_sound p a t e ce m l =
      subst (λ (s : State). Move s least (add e t)) (L.add_under e a p l) (L.reduces_more (add a p) t e ce (L.move_sound p a t m))

  -- complete: every reduction with e added is such a move
  pub added_complete : (p t : State) (e : Label) → Constraint e → Move (add e p) least t
      → (a : Label) × (u : State) × Below a e × Move p a u × (t ≡ add e u)
  added_complete = L.move_complete

  -- ---- decisions
  pub redundant_dec : (R : State → State → Type 0) → ((p q : State) → Dec (R p q)) → (p : State) (b : Label) (t : State) → Dec (Redundant T R p b t)
  redundant_dec R dec p b t =
      go (L.some_move p (λ a u. StrictlyBelow T a b × R t (add b u))
      (λ a u. both_dec (both_dec (L.below_dec a b) (not_dec (L.same_label_lem a b))) (dec t (add b u))))
    where
      go : Dec ((a : Label) × (u : State) × Move p a u × (StrictlyBelow T a b × R t (add b u))) → Dec (Redundant T R p b t)
      go (yes x) = yes (x.0, x.1, x.2, x.3.0, x.3.1)
      go (no f) = no (λ r. f (r.0, r.1, r.2, (r.3, r.4)))

  answered_dec : (R : State → State → Type 0) → ((p q : State) → Dec (R p q)) → (p q : State) → Dec (Answered T R p q)
  answered_dec R dec p q =
      go (L.every_move p (λ b t. (Redundant T R p b t → ⊥) → (u : State) × Move q b u × R t u)
      (λ b t. when_dec (not_dec (redundant_dec R dec p b t)) (reply b t (L.some_move q (λ a u. (a ≡ b) × R t u) (λ a u. both_dec (L.same_label_lem a b) (dec t u))))))
    where
      reply : (b : Label) (t : State) → Dec ((a : Label) × (u : State) × Move q a u × ((a ≡ b) × R t u)) → Dec ((u : State) × Move q b u × R t u)
      reply b t (yes x) = yes (x.1, subst (λ (a : Label). Move q a x.1) x.3.0 x.2, x.3.1)
      reply b t (no f) = no (λ y. f (b, y.0, y.1, (refl, y.2)))

      go : Dec ((b : Label) (t : State) → Move p b t → ((Redundant T R p b t → ⊥) → (u : State) × Move q b u × R t u)) → Dec (Answered T R p q)
      go (yes f) = yes (λ b t m r. f b t m r)
      go (no f) = no (λ h. f (λ b t m r. h b t m r))

  pub round_dec : (n : ℕ) (p q : State) → Dec (Round T n p q)
  round_dec zero p q = L.barbs_dec p q
  round_dec (suc n) p q = go (round_dec n p q) (answered_dec (Round T n) (round_dec n) p q) (answered_dec (Round T n) (round_dec n) q p)
    where
      go : Dec (Round T n p q) → Dec (Answered T (Round T n) p q) → Dec (Answered T (Round T n) q p) → Dec (Round T (suc n) p q)
      go (yes a) (yes b) (yes c) = yes (a, b, c)
      go (yes a) (yes b) (no c) = no (λ t. c t.2)
      go (yes a) (no b) d = no (λ t. b t.1)
      go (no a) d e = no (λ t. a t.0)

  -- ---- one round against one level: R is level n, and its redundancy is decided
  module _ (n : ℕ) (R : State → State → Type 0)
      (to : (p q : State) → R p q → Level T n p q) (from : (p q : State) → Level T n p q → R p q)
      (dec : (p : State) (b : Label) (t : State) → Dec (Redundant T R p b t)) where
    -- a move of p with a label below a, irredundant, whose target with a added is level n with t
    pub record Dominant (p : State) (a : Label) (t : State) : Type 0 where
      pub label : Label
      pub after : State
      pub below : Below label a
      pub move : Move p label after
      pub irredundant : Redundant T R p label after → ⊥
      pub alike : Level T n t (add a after)

    dominated_within : (k : ℕ) (p : State) (a : Label) (t : State) → L.rank a < k → Move p a t → Dominant p a t
    dominated_within zero p a t h m = absurd (omega arith)
    dominated_within (suc k) p a t h m = go (dominated_within k p) (dec p a t)
      where
        go : ((b : Label) (u : State) → L.rank b < k → Move p b u → Dominant p b u) → Dec (Redundant T R p a t) → Dominant p a t
        go ih (no r) =
            record {
              label = a;
              after = t;
              below = L.below_refl a (L.move_constraint p a t m);
              move = m;
              irredundant = r;
              alike = subst (λ (s : State). Level T n t s) (sym (L.move_has_label p a t m)) (level_refl T L n t);
            }
        go ih (yes r) =
            let b : Label = r.0 in
            let u : State = r.1 in
            let l : StrictlyBelow T b a = r.3 in
            let d = ih b u (omega (arith, L.rank_below b a l.0 l.1)) r.2 in
            record {
              label = d.label;
              after = d.after;
              below = L.below_trans d.label b a d.below l.0;
              move = d.move;
              irredundant = d.irredundant;
              alike =
                  level_trans T L n t (add a u) (add a d.after) (to t (add a u) r.4)
                  (subst (λ (s : State). Level T n (add a u) s) (L.add_under a b d.after l.0)
                  (level_add T L n a (L.move_constraint p a t m) u (add b d.after) d.alike));
            }

    -- every move is dominated by an irredundant one
    pub dominated : (p : State) (a : Label) (t : State) → Move p a t → Dominant p a t
    dominated p a t m = dominated_within (suc (L.rank a)) p a t (omega arith) m

    -- answers to the irredundant moves are enough for every constraint added
    pub answered_replies : (p q : State) → Answered T R p q → Replies T (Level T n) p q
    answered_replies p q h e ce t m =
        let w = L.move_complete p t e ce m in
        let a : Label = w.0 in
        let t0 : State = w.1 in
        let d = dominated p a t0 w.3 in
        let be : Below d.label e = L.below_trans d.label a e d.below w.2 in
        let v = h d.label d.after d.move d.irredundant in (
          add e v.0,
          added_sound q d.label v.0 e ce v.1 be,
          subst (λ (s : State). Level T n s (add e v.0)) (sym w.4)
              (level_trans T L n (add e t0) (add e d.after) (add e v.0)
              (subst (λ (s : State). Level T n (add e t0) s) (L.add_under e a d.after w.2) (level_add T L n e ce t0 (add a d.after) d.alike))
              (level_add T L n e ce d.after v.0 (to d.after v.0 v.2))),
        )

    -- an irredundant move is answered with its own label
    pub replies_answered : (p q : State) → Replies T (Level T n) p q → Replies T (Level T n) q p → Answered T R p q
    replies_answered p q h k b t m r =
        let cb : Constraint b = L.move_constraint p b t m in
        let x = h b cb t (L.move_sound p b t m) in
        let w = L.move_complete q x.0 b cb x.1 in
        go x w (L.same_label_lem w.0 b)
      where
        go : (x : (u : State) × Move (add b q) least u × Level T n t u)
            → (w : (a : Label) × (u : State) × Below a b × Move q a u × (x.0 ≡ add b u))
            → Dec (w.0 ≡ b) → (u : State) × Move q b u × R t u
        go x w (yes e) =
            let mu : Move q b w.1 = subst (λ (a : Label). Move q a w.1) e w.3 in
            (w.1, mu, from t w.1 (subst (λ (s : State). Level T n t s) (w.4 ∙ L.move_has_label q b w.1 mu) x.2))
        go x w (no e) =
            let a : Label = w.0 in
            let u0 : State = w.1 in
            let ca : Constraint a = L.move_constraint q a u0 w.3 in
            let y = k a ca u0 (L.move_sound q a u0 w.3) in
            let z = L.move_complete p y.0 a ca y.1 in
            absurd (r (
              z.0,
              z.1,
              z.3,
              (
                L.below_trans z.0 a b z.2 w.2,
                λ s. e (L.below_antisym a b w.2 (subst (λ (l : Label). Below l a) s z.2)),
              ),
              from t (add b z.1)
                  (level_trans T L n t x.0 (add b z.1) x.2
                  (subst (λ (s : State). Level T n s (add b z.1)) (sym w.4)
                  (subst (λ (s : State). Level T n (add b u0) s) (ap (add b) z.4 ∙ L.add_under b a z.1 w.2)
                  (level_add T L n b (L.move_constraint p b t m) u0 y.0 y.2)))),
            ))

    -- the irredundant moves of two that answer each other have the same labels and the same classes of targets
    pub lines_same : (p q : State) → Answered T R p q → Answered T R q p → (b : Label) (t : State) → Move p b t → (Redundant T R p b t → ⊥)
        → (u : State) × Move q b u × R t u × (Redundant T R q b u → ⊥)
    lines_same p q h k b t m r =
        let x = h b t m r in (
          x.0,
          x.1,
          x.2,
          λ y.
              let d = dominated q y.0 y.1 y.2 in
              let a : Label = y.0 in
              let l : StrictlyBelow T a b = y.3 in
              let cb : Constraint b = L.move_constraint p b t m in
              let v = k d.label d.after d.move d.irredundant in
              r (
                d.label,
                v.0,
                v.1,
                (
                  L.below_trans d.label a b d.below l.0,
                  λ s. l.1 (L.below_antisym a b l.0 (subst (λ (c : Label). Below c a) s d.below)),
                ),
                from t (add b v.0)
                    (level_trans T L n t x.0 (add b v.0) (to t x.0 x.2)
                    (level_trans T L n x.0 (add b y.1) (add b v.0) (to x.0 (add b y.1) y.4)
                    (level_trans T L n (add b y.1) (add b d.after) (add b v.0)
                    (subst (λ (s : State). Level T n (add b y.1) s) (L.add_under b a d.after l.0) (level_add T L n b cb y.1 (add a d.after) d.alike))
                    (level_add T L n b cb d.after v.0 (to d.after v.0 v.2))))),
              ),
        )

  -- ---- rounds are levels
  pub rounds_levels : (n : ℕ) → ((p q : State) → Round T n p q → Level T n p q) × ((p q : State) → Level T n p q → Round T n p q)
  rounds_levels zero = ((λ p q h. h), (λ p q h. h))
  rounds_levels (suc n) =
      let ih = rounds_levels n in
      let dec : (p : State) (b : Label) (t : State) → Dec (Redundant T (Round T n) p b t) = redundant_dec (Round T n) (round_dec n) in (
        (λ p q h. (
          level_barbs T L n p q (ih.0 p q h.0),
          answered_replies n (Round T n) ih.0 ih.1 dec p q h.1,
          answered_replies n (Round T n) ih.0 ih.1 dec q p h.2,
        )),
        (λ p q h. (
          ih.1 p q (level_down T L n p q h),
          replies_answered n (Round T n) ih.0 ih.1 dec p q h.1 h.2,
          replies_answered n (Round T n) ih.0 ih.1 dec q p h.2 h.1,
        )),
      )

  -- round n is level n
  pub round_level : (n : ℕ) (p q : State) → Round T n p q ↔ Level T n p q
  round_level n p q = ((rounds_levels n).0 p q, (rounds_levels n).1 p q)

  -- sharing a class is an equivalence in every round, and stays so under an added constraint
  pub round_refl : (n : ℕ) (p : State) → Round T n p p
  round_refl n p = (round_level n p p).1 (level_refl T L n p)

  pub round_sym : (n : ℕ) (p q : State) → Round T n p q → Round T n q p
  round_sym n p q h = (round_level n q p).1 (level_sym T L n p q ((round_level n p q).0 h))

  pub round_trans : (n : ℕ) (p q r : State) → Round T n p q → Round T n q r → Round T n p r
  round_trans n p q r h k = (round_level n p r).1 (level_trans T L n p q r ((round_level n p q).0 h) ((round_level n q r).0 k))

  pub round_add : (n : ℕ) (e : Label) → Constraint e → (p q : State) → Round T n p q → Round T n (add e p) (add e q)
  round_add n e ce p q h = (round_level n (add e p) (add e q)).1 (level_add T L n e ce p q ((round_level n p q).0 h))

  -- the least round that separates two is the least level that does
  pub first_apart : (n : ℕ) (p q : State) → FirstApart T (Round T) n p q ↔ FirstApart T (Level T) n p q
  first_apart n p q = (
    (λ f. record { apart = λ l. f.apart ((round_level n p q).1 l); together = λ m h. (round_level m p q).0 (f.together m h) }),
    (λ f. record { apart = λ l. f.apart ((round_level n p q).0 l); together = λ m h. (round_level m p q).1 (f.together m h) }),
  )

  -- two are together in every round exactly when no number of moves tells them apart
  pub always_together : (p q : State) → ((n : ℕ) → Round T n p q) ↔ ((n : ℕ) → TellsApart T n p q → ⊥)
  always_together p q = (
    (λ f n a. a ((round_level n p q).0 (f n))),
    (λ f n. decided n (round_dec n p q) (f n)),
  )
    where
      decided : (n : ℕ) → Dec (Round T n p q) → (TellsApart T n p q → ⊥) → Round T n p q
      decided n (yes h) g = h
      decided n (no r) g = absurd (g (λ l. r ((round_level n p q).1 l)))

  -- the irredundant moves of a class: labels and classes of targets are the same whichever member is asked
  pub class_lines_same : (n : ℕ) (p q : State) → Round T (suc n) p q → (b : Label) (t : State) → Move p b t
      → (Redundant T (Round T n) p b t → ⊥) → (u : State) × Move q b u × Round T n t u × (Redundant T (Round T n) q b u → ⊥)
  class_lines_same n p q h b t m r =
      lines_same n (Round T n) (rounds_levels n).0 (rounds_levels n).1 (redundant_dec (Round T n) (round_dec n)) p q h.1 h.2 b t m r
