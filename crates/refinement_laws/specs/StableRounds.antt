-- A round that splits nothing among the members stays so for good, and its classes are those of saturated barbed
-- bisimilarity: two members share one exactly when some such bisimulation contains them as a pair.
use Rattle.std.specs.Prelude.{◌≡◌, refl, ◌↔◌, ℕ, zero, suc, ◌+◌, ◌-◌, ◌≤◌, ltb}
use Rattle.std.proofs.Common.{sym, ap, ◌∙◌, subst, arith, ltb-true, ltb-false}
use mathlib.Core.List.{List, Memᴰ}
use Rattle.list_laws.specs.TestLaws.{Tested, tested, passes, fails}
use Rattle.refinement.specs.Refinement.{Transitions, StrictlyBelow, Member, seed, target, added, Redundant, Answered, Round, Bisimulation, Bisimilar}
use Rattle.refinement_laws.specs.LawfulMoves.{Lawful}
use Rattle.refinement_laws.specs.LevelLaws.{level_barbs, level_add, bisimulation_level}
use Rattle.refinement_laws.specs.RoundLevels.{added_sound, redundant_dec, round_dec, dominated, rounds_levels, round_level, round_sym}
use Rattle.refinement_laws.specs.EarlierRounds.{round_earlier}

module _ (T : Transitions) (seeds : List T.State) where
  open T use {Label, State, add, Move}

  -- the set is the least one: any other that holds the seeds and keeps the rules has every member
  pub member_least : (M : State → Type 0)
      → ((p : State) → Memᴰ p seeds → M p)
      → ((p t : State) (a : Label) → M p → Move p a t → M t)
      → ((p u t : State) (a b : Label) → M p → Move p a u → Move p b t → StrictlyBelow T a b → M (add b u))
      → (p : State) → Member T seeds p → M p
  member_least M s t r p (seed m) = s p m
  member_least M s t r x (target {p} {a = a} m k) = t p x a (member_least M s t r p m) k
  member_least M s t r x (added {p} {u} {t = v} {a} {b} m k l n) = r p u v a b (member_least M s t r p m) k l n

module _ (T : Transitions) (L : Lawful T) (seeds : List T.State) where
  open T use {Label, Constraint, Below, least, State, Of, add, SameBarbs, Move}

  -- every member is a configuration of the sheet, where the seeds are
  pub member_of : ((p : State) → Memᴰ p seeds → Of p) → (p : State) → Member T seeds p → Of p
  member_of f =
      member_least T seeds Of f (λ p t a o m. L.move_of_lem p a t o m)
      (λ p u t a b o m k l. L.of_add b u (L.move_constraint p b t k) (L.move_of_lem p a u o m))

  -- round n splits no class of members
  abbrev pub Stable : ℕ → Type 0
  Stable n = (p q : State) → Member T seeds p → Member T seeds q → Round T n p q → Round T (suc n) p q

  -- two relations that agree on the members have the same redundant moves and the same answers there
  abbrev Agree : (State → State → Type 0) → (State → State → Type 0) → Type 0
  Agree R Q = (p q : State) → Member T seeds p → Member T seeds q → (R p q → Q p q) × (Q p q → R p q)

  redundant_agree : (R Q : State → State → Type 0) → Agree R Q → (p : State) (b : Label) (t : State) → Member T seeds p → Move p b t
      → Redundant T R p b t → Redundant T Q p b t
  redundant_agree R Q g p b t mp m r = (r.0, r.1, r.2, r.3, (g t (add b r.1) (target mp m) (added mp r.2 m r.3)).0 r.4)

  pub answered_agree : (R Q : State → State → Type 0) → Agree R Q → (p q : State) → Member T seeds p → Member T seeds q → Answered T R p q → Answered T Q p q
  answered_agree R Q g p q mp mq h b t m r =
      let x = h b t m (λ y. r (redundant_agree R Q g p b t mp m y)) in
      (x.0, x.1, (g t x.0 (target mp m) (target mq x.1)).0 x.2)

  -- a round that splits nothing is stable for good
  pub stable_next : (n : ℕ) → Stable n → Stable (suc n)
  stable_next n st p q mp mq h =
      (h, answered_agree (Round T n) (Round T (suc n)) agree p q mp mq h.1, answered_agree (Round T n) (Round T (suc n)) agree q p mq mp h.2)
    where
      agree : Agree (Round T n) (Round T (suc n))
      agree x y mx my = ((λ r. st x y mx my r), (λ r. r.0))

  pub stable_from : (n k : ℕ) → Stable n → (p q : State) → Member T seeds p → Member T seeds q → Round T n p q → Round T (k + n) p q
  stable_from n zero st p q mp mq h = let e : n ≡ 0 + n = omega arith in subst (λ (m : ℕ). Round T m p q) e h
  stable_from n (suc k) st p q mp mq h =
      let e : k + suc n ≡ suc k + n = omega arith in
      subst (λ (m : ℕ). Round T m p q) e (stable_from (suc n) k (stable_next n st) p q mp mq (st p q mp mq h))

  -- and so is every later one
  pub stable_later : (n k : ℕ) → n ≤ k → Stable n → Stable k
  stable_later n k l st = let e : (k - n) + n ≡ k = omega (arith, l) in subst Stable e (later (k - n))
    where
      later : (d : ℕ) → Stable (d + n)
      later zero = let e : n ≡ 0 + n = omega arith in subst Stable e st
      later (suc d) = let e : suc (d + n) ≡ suc d + n = omega arith in subst Stable e (stable_next (d + n) (later d))

  -- members that are together in it are together in every round
  pub stable_always : (n : ℕ) → Stable n → (p q : State) → Member T seeds p → Member T seeds q → Round T n p q → (k : ℕ) → Round T k p q
  stable_always n st p q mp mq h k = go (tested (ltb k n))
    where
      go : Tested (ltb k n) → Round T k p q
      go (passes t) = round_earlier T n k p q (omega (arith, ltb-true k n t)) h
      go (fails t) =
          let e : (k - n) + n ≡ k = omega (arith, ltb-false k n t) in
          subst (λ (i : ℕ). Round T i p q) e (stable_from n (k - n) st p q mp mq h)

  module _ (of : (p : State) → Memᴰ p seeds → Of p) (n : ℕ) (stable : Stable n) where
    -- two members of one class with a constraint added to both
    pub record Pair (x y : State) : Type 0 where
      pub constraint : Label
      pub left : State
      pub right : State
      pub is_constraint : Constraint constraint
      pub left_member : Member T seeds left
      pub right_member : Member T seeds right
      pub together : Round T n left right
      pub left_is : x ≡ add constraint left
      pub right_is : y ≡ add constraint right

    -- pairs joined end to end
    pub data Chain : State → State → Type 0 where
      one : {x y : State} → Pair x y → Chain x y
      more : {x y z : State} → Pair x y → Chain y z → Chain x z

    chain_join : {x y z : State} → Chain x y → Chain y z → Chain x z
    chain_join (one g) d = more g d
    chain_join (more g c) d = more g (chain_join c d)

    pair_flip : {x y : State} → Pair x y → Pair y x
    pair_flip g = record {
      constraint = g.constraint;
      left = g.right;
      right = g.left;
      is_constraint = g.is_constraint;
      left_member = g.right_member;
      right_member = g.left_member;
      together = round_sym T L n g.left g.right g.together;
      left_is = g.right_is;
      right_is = g.left_is;
    }

    chain_flip : {x y : State} → Chain x y → Chain y x
    chain_flip (one g) = one (pair_flip g)
    chain_flip (more g c) = chain_join (chain_flip c) (one (pair_flip g))

    pair_of : {x y : State} → Pair x y → Of x × Of y
    pair_of g = (
      subst Of (sym g.left_is) (L.of_add g.constraint g.left g.is_constraint (member_of of g.left g.left_member)),
      subst Of (sym g.right_is) (L.of_add g.constraint g.right g.is_constraint (member_of of g.right g.right_member)),
    )

    chain_of : {x y : State} → Chain x y → Of x × Of y
    chain_of (one g) = pair_of g
    chain_of (more g c) = ((pair_of g).0, (chain_of c).1)

    pair_barbs : {x y : State} → Pair x y → SameBarbs x y
    pair_barbs {x} {y} g =
        subst (λ (s : State). SameBarbs s y) (sym g.left_is)
        (subst (λ (s : State). SameBarbs (add g.constraint g.left) s) (sym g.right_is)
        (level_barbs T L n (add g.constraint g.left) (add g.constraint g.right)
        (level_add T L n g.constraint g.is_constraint g.left g.right ((round_level T L n g.left g.right).0 g.together))))

    chain_barbs : {x y : State} → Chain x y → SameBarbs x y
    chain_barbs (one g) = pair_barbs g
    chain_barbs (more {x} {y} {z} g c) = L.barbs_trans x y z (pair_barbs g) (chain_barbs c)

    pair_adds : {x y : State} (f : Label) → Constraint f → Pair x y → Pair (add f x) (add f y)
    pair_adds f cf g = record {
      constraint = L.join f g.constraint;
      left = g.left;
      right = g.right;
      is_constraint = L.join_constraint f g.constraint cf g.is_constraint;
      left_member = g.left_member;
      right_member = g.right_member;
      together = g.together;
      left_is = ap (add f) g.left_is ∙ L.add_add f g.constraint g.left;
      right_is = ap (add f) g.right_is ∙ L.add_add f g.constraint g.right;
    }

    chain_adds : {x y : State} (f : Label) → Constraint f → Chain x y → Chain (add f x) (add f y)
    chain_adds f cf (one g) = one (pair_adds f cf g)
    chain_adds f cf (more g c) = more (pair_adds f cf g) (chain_adds f cf c)

    -- the target of a dominating move with the dominated label added is a member
    dominant_member : (p : State) → Member T seeds p → (a : Label) (t : State) (b : Label) (u : State) → Move p a t → Move p b u → Below b a
        → Dec (b ≡ a) → Member T seeds (add a u)
    dominant_member p mp a t b u ma mb l (yes e) =
        subst (Member T seeds) (sym (ap (λ (c : Label). add c u) (sym e) ∙ L.move_has_label p b u mb)) (target mp mb)
    dominant_member p mp a t b u ma mb l (no e) = added mp mb ma (l, e)

    pair_answers : {x y : State} (t : State) → Pair x y → Move x least t → (u : State) × Move y least u × Chain t u
    pair_answers {x} {y} t g m =
        let w = L.move_complete g.left t g.constraint g.is_constraint (subst (λ (s : State). Move s least t) g.left_is m) in
        let a : Label = w.0 in
        let t0 : State = w.1 in
        let d = dominated T L n (Round T n) (rounds_levels T L n).0 (rounds_levels T L n).1 (redundant_dec T L (Round T n) (round_dec T L n)) g.left a t0 w.3 in
        let be : Below d.label g.constraint = L.below_trans d.label a g.constraint d.below w.2 in
        let next = stable g.left g.right g.left_member g.right_member g.together in
        let v = next.1 d.label d.after d.move d.irredundant in (
          add g.constraint v.0,
          subst (λ (s : State). Move s least (add g.constraint v.0)) (sym g.right_is)
              (added_sound T L g.right d.label v.0 g.constraint g.is_constraint v.1 be),
          more
              (record {
                constraint = g.constraint;
                left = t0;
                right = add a d.after;
                is_constraint = g.is_constraint;
                left_member = target g.left_member w.3;
                right_member = dominant_member g.left g.left_member a t0 d.label d.after w.3 d.move d.below (L.same_label_lem d.label a);
                together = (round_level T L n t0 (add a d.after)).1 d.alike;
                left_is = w.4;
                right_is = sym (L.add_under g.constraint a d.after w.2);
              })
              (one (record {
                constraint = g.constraint;
                left = d.after;
                right = v.0;
                is_constraint = g.is_constraint;
                left_member = target g.left_member d.move;
                right_member = target g.right_member v.1;
                together = v.2;
                left_is = refl;
                right_is = refl;
              })),
        )

    chain_answers : {x y : State} (t : State) → Chain x y → Move x least t → (u : State) × Move y least u × Chain t u
    chain_answers t (one g) m = pair_answers t g m
    chain_answers t (more g c) m =
        let a = pair_answers t g m in
        let b = chain_answers a.0 c a.1 in
        (b.0, b.1, chain_join a.2 b.2)

    -- the chains are a saturated barbed bisimulation
    pub chain_bisimulation : Bisimulation T Chain
    chain_bisimulation = record {
      over = λ x y c. chain_of c;
      symmetric = λ x y c. chain_flip c;
      barbs = λ x y c. chain_barbs c;
      answers = λ x y t c m. chain_answers t c m;
      adds = λ x y e ce c. chain_adds e ce c;
    }

    pub together_chain : (p q : State) → Member T seeds p → Member T seeds q → Round T n p q → Chain p q
    together_chain p q mp mq h =
        one (record {
          constraint = least;
          left = p;
          right = q;
          is_constraint = L.least_constraint;
          left_member = mp;
          right_member = mq;
          together = h;
          left_is = sym (L.add_least p (member_of of p mp));
          right_is = sym (L.add_least q (member_of of q mq));
        })

    -- Two members share a class of a round that splits nothing exactly when some saturated barbed bisimulation contains them.
    pub stable_bisimilar : (p q : State) → Member T seeds p → Member T seeds q → Round T n p q ↔ Bisimilar T p q
    stable_bisimilar p q mp mq = (
      (λ h. record { relation = Chain; is_bisimulation = chain_bisimulation; contains = together_chain p q mp mq h }),
      (λ b. (round_level T L n p q).1 (bisimulation_level T L b.relation b.is_bisimulation n p q b.contains)),
    )
