-- Where two configurations come apart, and how long a trail can be: each step leads to a pair that an earlier round has
-- apart.
use Rattle.std.specs.Prelude.{◌≡◌, ◌⊎◌, Bool, cond, not, ◌&&◌, ◌||◌, ltb}
use Rattle.std.proofs.Math.Path.{refl}
use Rattle.std.proofs.Common.{sym, ap, subst, inl, inr, ⊎_elim}
use Rattle.std.proofs.Math.Bool.{true, false}
use mathlib.Core.List.{List, [], ◌∷◌, Memᴰ}
use Prim.Native.Nat.{ℕ, zero, suc, ◌-◌, ◌≤◌, ◌<◌}
use native.Mathlib.Omega.{arith}
use Rattle.std.proofs.Math.ListN.{length, get_or}
use Rattle.std.proofs.Math.Dec.{eqb}
use borrow.Author.Tests.{eqb-true, eqb-false, eq-eqb, ltb-true, ltb-false, not-false, not-true}
use Rattle.move_laws.specs.TestLaws.{and_intro, and_left, and_right, or_left, or_right, or_false, same_test, not_passes, Tested, tested, passes, fails}
use Rattle.move_laws.specs.Lists.{select, Ascends, then_rest}
use Rattle.move_laws.specs.Members.{mem_select, select_mem, any_no, all_of}
use Rattle.move_laws.specs.AscendingLaws.{ascends_head, ascends_tail, not_both, none_before_head, select_ascends}
use Rattle.move_laws.specs.OrderLaws.{move_order}
use Rattle.move_laws.specs.Sheet.{Configuration, Sheet}
use Rattle.move_laws.specs.Orders.{Move, move_before}
use Rattle.move_laws.specs.Moves.{moves}
use Rattle.comparison.specs.Classes.{class_of, share}
use Rattle.comparison.specs.Rounds.{redundant, answers, answered, apart_in, result_of}
use Rattle.comparison.specs.Trail.{Side, left, right, Reply, none, move, TrailStep, highest, highest_of, unanswered, reply_to, after, first_of, trail_from, trail}
use Rattle.comparison_laws.specs.SetLaws.{moves_ascend}
use Rattle.comparison_laws.specs.ClassLaws.{position_le, position_at, position_before, position_most, position_same}

-- ---- the first round that has two apart
eqb_sym : (a b : ℕ) → eqb a b ≡ eqb b a
eqb_sym a b = same_test (eqb a b) (eqb b a) (λ h. eq-eqb b a (sym (eqb-true a b h))) (λ h. eq-eqb a b (sym (eqb-true b a h)))

pub share_sym : (set : List Configuration) (classes : List ℕ) (p q : Configuration) → share set classes p q ≡ share set classes q p
share_sym set classes p q = eqb_sym (class_of set classes p) (class_of set classes q)

module _ (set : List Configuration) (rs : List (List ℕ)) (p q : Configuration) where
  pub apart_sym : apart_in set rs p q ≡ apart_in set rs q p
  apart_sym = position_same (λ c. not (share set c p q)) (λ c. not (share set c q p)) rs (λ c m. ap not (share_sym set c p q))

  pub apart_le : apart_in set rs p q ≤ length rs
  apart_le = position_le (λ c. not (share set c p q)) rs

  -- a round that has them apart is not before the first one
  pub apart_at_most : (k : ℕ) → k < length rs → share set (get_or rs k []) p q ≡ false → apart_in set rs p q ≤ k
  apart_at_most k l h = position_most (λ c. not (share set c p q)) rs k [] l (not_passes h)

  -- they are together in every round before it
  pub apart_together : (i : ℕ) → i < apart_in set rs p q → share set (get_or rs i []) p q ≡ true
  apart_together i l = not-false (share set (get_or rs i []) p q) (position_before (λ c. not (share set c p q)) rs i [] l)

  -- and apart in it, where there is one
  pub apart_at_lem : apart_in set rs p q < length rs → share set (get_or rs (apart_in set rs p q) []) p q ≡ false
  apart_at_lem l = not-true (share set (get_or rs (apart_in set rs p q) []) p q) (position_at (λ c. not (share set c p q)) rs [] l).1

-- ---- replies
pub highest_mem : (value : Configuration → ℕ) (best : Move) (ms : List Move) → Memᴰ (highest value best ms) (best ∷ ms)
highest_mem value best [] = mathlib.Core.List.Memᴰ.head refl
highest_mem value best (m ∷ ms) = go (ltb (value best.target) (value m.target)) (λ k. highest_mem value k ms)
  where
    go : (b : Bool) → ((k : Move) → Memᴰ (highest value k ms) (k ∷ ms)) → Memᴰ (highest value (cond b m best) ms) (best ∷ m ∷ ms)
    go true ih = mathlib.Core.List.Memᴰ.tail (ih m)
    go false ih =
        ⊎_elim (λ (e : highest value best ms ≡ best). mathlib.Core.List.Memᴰ.head e) (λ (i : Memᴰ (highest value best ms) ms). mathlib.Core.List.Memᴰ.tail (mathlib.Core.List.Memᴰ.tail i))
        (mathlib.Core.List.Memᴰ.cases_cons (ih best))

-- no target has a higher value
pub highest_most : (value : Configuration → ℕ) (best : Move) (ms : List Move) {k : Move} → Memᴰ k (best ∷ ms)
    → value k.target ≤ value (highest value best ms).target
highest_most value best [] {k} i =
    let e : k ≡ best = mathlib.Core.List.Memᴰ.eq_of_singleton i in let v : value k.target ≡ value best.target = cc in omega (arith, v)
highest_most value best (m ∷ ms) {k} i =
    go (ltb (value best.target) (value m.target)) refl (λ c. highest_most value c ms {k = c} (mathlib.Core.List.Memᴰ.head refl))
    (λ c h. highest_most value c ms {k = k} (mathlib.Core.List.Memᴰ.tail h))
    (mathlib.Core.List.Memᴰ.cases_cons i)
  where
    go : (b : Bool) → ltb (value best.target) (value m.target) ≡ b
        → ((c : Move) → value c.target ≤ value (highest value c ms).target)
        → ((c : Move) → Memᴰ k ms → value k.target ≤ value (highest value c ms).target)
        → (k ≡ best) ⊎ Memᴰ k (m ∷ ms) → value k.target ≤ value (highest value (cond b m best) ms).target
    go true t first later (inl e) =
        let v : value k.target ≡ value best.target = cc in omega (arith, v, ltb-true (value best.target) (value m.target) t, first m)
    go false t first later (inl e) = let v : value k.target ≡ value best.target = cc in omega (arith, v, first best)
    go b t first later (inr j) = ⊎_elim (λ (e : k ≡ m). at b t e) (λ (h : Memᴰ k ms). later (cond b m best) h) (mathlib.Core.List.Memᴰ.cases_cons j)
      where
        at : (b : Bool) → ltb (value best.target) (value m.target) ≡ b → k ≡ m
            → value k.target ≤ value (highest value (cond b m best) ms).target
        at true t e = let v : value k.target ≡ value m.target = cc in omega (arith, v, first m)
        at false t e =
            let v : value k.target ≡ value m.target = cc in omega (arith, v, ltb-false (value best.target) (value m.target) t, first best)

-- of the targets with the highest value it is the earliest, where moves are in their order
pub highest_earliest : (value : Configuration → ℕ) (best : Move) (ms : List Move) → Ascends move_before (best ∷ ms) → {k : Move} → Memᴰ k (best ∷ ms)
    → value k.target ≡ value (highest value best ms).target → move_before k (highest value best ms) ≡ true → ⊥
highest_earliest value best [] a {k} i = λ e h. none_before_head move_order a k i h
highest_earliest value best (m ∷ ms) a {k} i =
    go (ltb (value best.target) (value m.target)) refl
    (λ j. highest_earliest value m ms (ascends_tail move_order a) {k = k} j)
    (λ c j. highest_earliest value best ms without {k = c} j)
    (mathlib.Core.List.Memᴰ.cases_cons i)
  where
    without : Ascends move_before (best ∷ ms)
    without = then_rest (λ y n. ascends_head move_order a y (mathlib.Core.List.Memᴰ.tail n)) (ascends_tail move_order (ascends_tail move_order a))

    -- where m does not become the best, it is not earlier than what is taken with its value
    passed : value m.target ≤ value best.target
        → ((c : Move) → Memᴰ c (best ∷ ms) → value c.target ≡ value (highest value best ms).target → move_before c (highest value best ms) ≡ true → ⊥)
        → value m.target ≡ value (highest value best ms).target → move_before m (highest value best ms) ≡ true → ⊥
    passed l on e h =
        ⊎_elim
        (λ (q : highest value best ms ≡ best).
        not_both move_order best m (ascends_head move_order a m (mathlib.Core.List.Memᴰ.head refl)) (subst (λ (x : Move). move_before m x ≡ true) q h))
        (λ (n : Memᴰ (highest value best ms) ms).
        on best (mathlib.Core.List.Memᴰ.head refl)
        (omega (arith, l, e, highest_most value best ms {k = best} (mathlib.Core.List.Memᴰ.head refl)))
        (ascends_head move_order without (highest value best ms) n))
        (mathlib.Core.List.Memᴰ.cases_cons (highest_mem value best ms))

    go : (b : Bool) → ltb (value best.target) (value m.target) ≡ b
        → (Memᴰ k (m ∷ ms) → value k.target ≡ value (highest value m ms).target → move_before k (highest value m ms) ≡ true → ⊥)
        → ((c : Move) → Memᴰ c (best ∷ ms) → value c.target ≡ value (highest value best ms).target → move_before c (highest value best ms) ≡ true → ⊥)
        → (k ≡ best) ⊎ Memᴰ k (m ∷ ms)
        → value k.target ≡ value (highest value (cond b m best) ms).target → move_before k (highest value (cond b m best) ms) ≡ true → ⊥
    go true t first later (inl q) e h =
        let v : value k.target ≡ value best.target = cc in
        omega (arith, v, e, ltb-true (value best.target) (value m.target) t, highest_most value m ms {k = m} (mathlib.Core.List.Memᴰ.head refl))
    go true t first later (inr j) e h = first j e h
    go false t first later (inl q) e h = later k (mathlib.Core.List.Memᴰ.head q) e h
    go false t first later (inr j) e h =
        ⊎_elim
        (λ (q : k ≡ m).
        let x : value m.target ≡ value (highest value best ms).target = subst (λ (c : Move). value c.target ≡ value (highest value best ms).target) q e in
        passed (ltb-false (value best.target) (value m.target) t) later x (subst (λ (c : Move). move_before c (highest value best ms) ≡ true) q h))
        (λ (n : Memᴰ k ms). later k (mathlib.Core.List.Memᴰ.tail n) e h) (mathlib.Core.List.Memᴰ.cases_cons j)

module _ (sheet : Sheet) (set : List Configuration) (rs : List (List ℕ)) where
  -- a move that is taken is one of its member's, irredundant, and unanswered
  pub unanswered_mem : (classes : List ℕ) (p q : Configuration) {m : Move} → Memᴰ m (unanswered sheet set rs classes p q)
      → Memᴰ m (moves sheet p) × (redundant sheet set classes p m ≡ false) × (answers sheet set classes q m ≡ false)
  unanswered_mem classes p q {m} h =
      let x = mem_select (λ m. not (redundant sheet set classes p m) && not (answers sheet set classes q m)) (moves sheet p) h in (
        x.0,
        not-true (redundant sheet set classes p m) (and_left (not (redundant sheet set classes p m)) (not (answers sheet set classes q m)) x.1),
        not-true (answers sheet set classes q m) (and_right (not (redundant sheet set classes p m)) (not (answers sheet set classes q m)) x.1),
      )

  -- every irredundant move has an answer where none is left without
  pub unanswered_none : (classes : List ℕ) (p q : Configuration) → unanswered sheet set rs classes p q ≡ [] → answered sheet set classes p q ≡ true
  unanswered_none classes p q e =
      all_of (λ a. redundant sheet set classes p a || answers sheet set classes q a) (moves sheet p)
      (λ a i. go a i (tested (redundant sheet set classes p a)) (tested (answers sheet set classes q a)))
    where
      go : (a : Move) → Memᴰ a (moves sheet p) → Tested (redundant sheet set classes p a) → Tested (answers sheet set classes q a)
          → (redundant sheet set classes p a || answers sheet set classes q a) ≡ true
      go a i (passes h) t = or_left (answers sheet set classes q a) h
      go a i (fails h) (passes k) = or_right (redundant sheet set classes p a) k
      go a i (fails h) (fails k) =
          absurd (mathlib.Core.List.Memᴰ.not-nil (subst (λ (ms : List Move). Memᴰ a ms) e
          (select_mem (λ b. not (redundant sheet set classes p b) && not (answers sheet set classes q b)) (moves sheet p) {a = a} i
          (and_intro (not_passes h) (not_passes k)))))

  -- a reply is a move of the other with the mover's label
  pub reply_mem : (q : Configuration) (m k : Move) → reply_to sheet set rs q m ≡ move k → Memᴰ k (moves sheet q) × (k.label ≡ m.label)
  reply_mem q m k e = go (select (λ k. eqb k.label m.label) (moves sheet q)) refl e
    where
      go : (ks : List Move) → select (λ k. eqb k.label m.label) (moves sheet q) ≡ ks → highest_of (apart_in set rs m.target) ks ≡ move k
          → Memᴰ k (moves sheet q) × (k.label ≡ m.label)
      go [] s e = let no : ◌≡◌ {A = ℕ} 0 1 = cc in absurd (omega arith)
      go (x ∷ xs) s e =
          let f : highest (apart_in set rs m.target) x xs ≡ k = cc in
          let i : Memᴰ k (x ∷ xs) = subst (λ (y : Move). Memᴰ y (x ∷ xs)) f (highest_mem (apart_in set rs m.target) x xs) in
          let y = mem_select (λ k. eqb k.label m.label) (moves sheet q) (subst (λ (l : List Move). Memᴰ k l) (sym s) i) in
          (y.0, eqb-true k.label m.label y.1)

  -- no move with the mover's label leads to a target that a higher round separates
  pub reply_highest : (q : Configuration) (m k c : Move) → reply_to sheet set rs q m ≡ move k → Memᴰ c (moves sheet q) → c.label ≡ m.label
      → apart_in set rs m.target c.target ≤ apart_in set rs m.target k.target
  reply_highest q m k c e i l =
      go (select (λ k. eqb k.label m.label) (moves sheet q))
      (select_mem (λ k. eqb k.label m.label) (moves sheet q) i (eq-eqb c.label m.label l)) e
    where
      go : (ks : List Move) → Memᴰ c ks → highest_of (apart_in set rs m.target) ks ≡ move k
          → apart_in set rs m.target c.target ≤ apart_in set rs m.target k.target
      go [] j e = absurd (mathlib.Core.List.Memᴰ.not-nil j)
      go (x ∷ xs) j e =
          let f : highest (apart_in set rs m.target) x xs ≡ k = cc in
          subst (λ (y : Move). apart_in set rs m.target c.target ≤ apart_in set rs m.target y.target) f
          (highest_most (apart_in set rs m.target) x xs j)

  -- nor to an earlier target that the same round separates
  pub reply_earliest : (q : Configuration) (m k c : Move) → reply_to sheet set rs q m ≡ move k → Memᴰ c (moves sheet q) → c.label ≡ m.label
      → apart_in set rs m.target c.target ≡ apart_in set rs m.target k.target → move_before c k ≡ true → ⊥
  reply_earliest q m k c e i l =
      go (select (λ k. eqb k.label m.label) (moves sheet q))
      (select_mem (λ k. eqb k.label m.label) (moves sheet q) i (eq-eqb c.label m.label l))
      (select_ascends move_order (λ k. eqb k.label m.label) (moves sheet q) (moves_ascend sheet q)) e
    where
      go : (ks : List Move) → Memᴰ c ks → Ascends move_before ks → highest_of (apart_in set rs m.target) ks ≡ move k
          → apart_in set rs m.target c.target ≡ apart_in set rs m.target k.target → move_before c k ≡ true → ⊥
      go [] j a e v h = mathlib.Core.List.Memᴰ.not-nil j
      go (x ∷ xs) j a e v h =
          let f : highest (apart_in set rs m.target) x xs ≡ k = cc in
          highest_earliest (apart_in set rs m.target) x xs a j
          (subst (λ (y : Move). apart_in set rs m.target c.target ≡ apart_in set rs m.target y.target) (sym f) v)
          (subst (λ (y : Move). move_before c y ≡ true) (sym f) h)

  -- where there is no reply, the other has no move with the mover's label
  pub reply_none : (q : Configuration) (m c : Move) → reply_to sheet set rs q m ≡ none → Memᴰ c (moves sheet q) → c.label ≡ m.label → ⊥
  reply_none q m c e i l =
      go (select (λ k. eqb k.label m.label) (moves sheet q))
      (select_mem (λ k. eqb k.label m.label) (moves sheet q) i (eq-eqb c.label m.label l)) e
    where
      go : (ks : List Move) → Memᴰ c ks → highest_of (apart_in set rs m.target) ks ≡ none → ⊥
      go [] j e = mathlib.Core.List.Memᴰ.not-nil j
      go (x ∷ xs) j e = let no : ◌≡◌ {A = ℕ} 0 1 = cc in absurd (omega arith)

  -- the reply to a move that has no answer leads to a pair that this round has apart
  pub reply_apart : (r : ℕ) → r < length rs → (q : Configuration) (m k : Move) → answers sheet set (get_or rs r []) q m ≡ false
      → reply_to sheet set rs q m ≡ move k → apart_in set rs m.target k.target ≤ r
  reply_apart r l q m k a e = apart_at_most set rs m.target k.target r l (go (reply_mem q m k e))
    where
      go : Memᴰ k (moves sheet q) × (k.label ≡ m.label) → share set (get_or rs r []) m.target k.target ≡ false
      go x =
          let h = any_no (λ k. eqb k.label m.label && share set (get_or rs r []) m.target k.target) (moves sheet q) a x.0 in
          rw (eq-eqb k.label m.label x.1) at h

  -- ---- lengths of trails
  -- a step and what follows it, where what follows is no longer than the round of the new pair
  after_short : (r : ℕ) → r < length rs → (more : Configuration → Configuration → List TrailStep)
      → ((p q : Configuration) → length (more p q) ≤ apart_in set rs p q) → (side : Side) (q : Configuration) (m : Move)
      → answers sheet set (get_or rs r []) q m ≡ false → length (after sheet set rs more side m (reply_to sheet set rs q m)) ≤ suc r
  after_short r l more ih side q m a = go (reply_to sheet set rs q m) refl side
    where
      go : (k : Reply) → reply_to sheet set rs q m ≡ k → (side : Side) → length (after sheet set rs more side m k) ≤ suc r
      go none e side = omega arith
      go (move k) e left = omega (arith, ih m.target k.target, reply_apart r l q m k a e)
      go (move k) e right = omega (arith, ih k.target m.target, apart_sym set rs k.target m.target, reply_apart r l q m k a e)

  first_of_short : (r : ℕ) → r < length rs → (more : Configuration → Configuration → List TrailStep)
      → ((p q : Configuration) → length (more p q) ≤ apart_in set rs p q) → (p q : Configuration) (ms ks : List Move)
      → ((m : Move) → Memᴰ m ms → answers sheet set (get_or rs r []) q m ≡ false)
      → ((k : Move) → Memᴰ k ks → answers sheet set (get_or rs r []) p k ≡ false)
      → length (first_of sheet set rs more p q ms ks) ≤ suc r
  first_of_short r l more ih p q (m ∷ ms) ks f g = after_short r l more ih left q m (f m (mathlib.Core.List.Memᴰ.head refl))
  first_of_short r l more ih p q [] (k ∷ ks) f g = after_short r l more ih right p k (g k (mathlib.Core.List.Memᴰ.head refl))
  first_of_short r l more ih p q [] [] f g = omega arith

  -- A trail from p and q is no longer than the first round that has them apart.
  pub trail_short : (n : ℕ) (p q : Configuration) → length (trail_from sheet set rs n p q) ≤ apart_in set rs p q
  unfolding trail_from
  trail_short zero p q = omega arith
  trail_short (suc n) p q = go (trail_short n) (eqb (apart_in set rs p q) 0 || eqb (apart_in set rs p q) (length rs)) refl
    where
      go : ((p q : Configuration) → length (trail_from sheet set rs n p q) ≤ apart_in set rs p q)
          → (b : Bool) → (eqb (apart_in set rs p q) 0 || eqb (apart_in set rs p q) (length rs)) ≡ b
          → length {A = TrailStep} (elim b [
            | true ↦ []
            | false ↦
                let classes = get_or rs (apart_in set rs p q - 1) [] in
                first_of sheet set rs (trail_from sheet set rs n) p q (unanswered sheet set rs classes p q) (unanswered sheet set rs classes q p)
          ])
          ≤ apart_in set rs p q
      go ih true e = omega arith
      go ih false e =
          let r : ℕ = apart_in set rs p q in
          let some : (eqb r 0 ≡ false) × (eqb r (length rs) ≡ false) = or_false (eqb r 0) (eqb r (length rs)) e in
          let l : r - 1 < length rs = omega (arith, apart_le set rs p q, eqb-false r 0 some.0, eqb-false r (length rs) some.1) in
          let classes : List ℕ = get_or rs (r - 1) [] in
          omega (
            arith,
            first_of_short (r - 1) l (trail_from sheet set rs n) ih p q (unanswered sheet set rs classes p q) (unanswered sheet set rs classes q p)
                (λ m i. (unanswered_mem classes p q i).2) (λ k i. (unanswered_mem classes q p i).2),
            eqb-false r 0 some.0,
          )

  -- a pair that no round has apart has no trail
  pub trail_none : (n : ℕ) (p q : Configuration) → apart_in set rs p q ≡ length rs → trail_from sheet set rs n p q ≡ []
  unfolding trail_from
  trail_none zero p q e = refl
  trail_none (suc n) p q e = rw (or_right (eqb (apart_in set rs p q) 0) (eq-eqb (apart_in set rs p q) (length rs) e), trail_from)

  -- A trail is no longer than the result's round.
  pub trail_length : (p q : Configuration) → length (trail sheet set rs p q) ≤ result_of rs
  trail_length p q = go (tested (eqb (apart_in set rs p q) (length rs)))
    where
      go : Tested (eqb (apart_in set rs p q) (length rs)) → length (trail sheet set rs p q) ≤ result_of rs
      go (passes h) = rw (trail_none (length rs) p q (eqb-true (apart_in set rs p q) (length rs) h)) (omega arith)
      go (fails h) = omega (arith, trail_short (length rs) p q, apart_le set rs p q, eqb-false (apart_in set rs p q) (length rs) h)
