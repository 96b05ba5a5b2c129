-- The trail of two members that some round separates can be walked: each step is a move that tells the mover from the other,
-- and its reply leads to a pair that an earlier round separates.
use Rattle.std.specs.Prelude.{◌≡◌, Bool, not, ◌&&◌, ◌||◌, ltb}
use Rattle.std.proofs.Math.Path.{refl, subst}
use Rattle.std.proofs.Common.{sym, arith}
use Rattle.std.proofs.Math.Bool.{true, false}
use mathlib.Core.List.Memᴰ
use mathlib.Core.List.{List, [], ◌∷◌, Memᴰ}
use Prim.Native.Nat.{ℕ, zero, suc, ◌-◌, ◌≤◌, ◌<◌}
use Rattle.std.proofs.Math.ListN.{length, get_or}
use Rattle.std.proofs.Math.Dec.{eqb}
use borrow.Author.Tests.{eqb-true, eqb-false, eq-eqb, ltb-true, ltb-false}
use Rattle.move_laws.specs.TestLaws.{true_false, and_left, and_right, and_intro, or_false, not_passes, Tested, tested, passes, fails}
use Rattle.move_laws.specs.Members.{any_yes, any_no, select_mem}
use Rattle.move_laws.specs.Lists.{Ascends}
use Rattle.move_laws.specs.AscendingLaws.{none_before_head, select_ascends}
use Rattle.move_laws.specs.OrderLaws.{move_order}
use Rattle.move_laws.specs.Sheet.{Configuration, Sheet}
use Rattle.move_laws.specs.WellFormed.{WellFormed}
use Rattle.move_laws.specs.Orders.{Move, move_before}
use Rattle.move_laws.specs.Moves.{moves, Moves}
use Rattle.comparison.specs.Classes.{share}
use Rattle.comparison.specs.Rounds.{redundant, answers, rounds, apart_in}
use Rattle.comparison.specs.Trail.{left, right, Reply, none, move, TrailStep, unanswered, reply_to, after, first_of, trail_from}
use Rattle.comparison.specs.Refinement.{Transitions, Answered, Round, FirstApart}
use Rattle.comparison.specs.SheetTransitions.{transitions}
use Rattle.comparison.specs.Promise.{Tells, Telling, Replied, Walkable, unequal_stores, left_alone, left_replied, right_alone, right_replied}
use Rattle.comparison_laws.specs.RoundLaws.{ClosedList, labelled, Sharing, sharing, redundant_no, redundant_test, answered_yes}
use Rattle.comparison_laws.specs.ResultLaws.{rounds_at}
use Rattle.comparison_laws.specs.SetLaws.{moves_ascend}
use Rattle.comparison_laws.specs.TrailLaws.{apart_sym, apart_le, apart_at_most, apart_together, apart_at_lem, unanswered_mem, unanswered_none, reply_mem, reply_highest, reply_earliest, reply_none, reply_apart}

module _ (sheet : Sheet) (wf : WellFormed sheet) (set : List Configuration) (closed : ClosedList sheet set) (some : 1 ≤ length set) where
  abbrev T : Transitions
  T = transitions sheet

  abbrev rs : List (List ℕ)
  rs = rounds sheet set

  abbrev apart_at : Configuration → Configuration → ℕ
  apart_at = apart_in set rs

  -- the k-th list is round k
  sharing_at : (k : ℕ) → k < length rs → Sharing sheet wf set closed (get_or rs k []) k
  sharing_at k l =
      subst (λ (c : List ℕ). Sharing sheet wf set closed c k) (sym (rounds_at sheet set wf closed some k l)) (sharing sheet wf set closed k)

  -- ---- the first round that separates two members
  module _ (p q : Configuration) (mp : Memᴰ p set) (mq : Memᴰ q set) where
    -- below it, the two are together
    pub together_below : (m : ℕ) → m < apart_at p q → Round T m p q
    together_below m h = (sharing_at m (omega (arith, apart_le set rs p q))).to_round p q mp mq (apart_together set rs p q m h)

    -- in it, where there is one, they are not
    pub not_together : apart_at p q < length rs → Round T (apart_at p q) p q → ⊥
    not_together h g =
        true_false (share set (get_or rs (apart_at p q) []) p q) ((sharing_at (apart_at p q) h).from_round p q mp mq g) (apart_at_lem set rs p q h)

    pub apart_first : apart_at p q < length rs → FirstApart T (Round T) (apart_at p q) p q
    apart_first h = record { apart = not_together h; together = together_below }

    -- no higher round is the first that separates them
    pub apart_most : (i : ℕ) → apart_at p q < length rs → FirstApart T (Round T) i p q → i ≤ apart_at p q
    apart_most i h f = go (tested (ltb (apart_at p q) i))
      where
        go : Tested (ltb (apart_at p q) i) → i ≤ apart_at p q
        go (passes l) = absurd (not_together h (f.together (apart_at p q) (ltb-true (apart_at p q) i l)))
        go (fails l) = ltb-false (apart_at p q) i l

  -- ---- the moves that are taken
  module _ (r : ℕ) (l : r < length rs) (p q : Configuration) (mp : Memᴰ p set) (mq : Memᴰ q set) where
    abbrev classes : List ℕ
    classes = get_or rs r []

    -- a move that is irredundant and unanswered tells
    unanswered_tells : {m : Move} → Memᴰ m (unanswered sheet set rs classes p q) → Tells sheet r p q m.label m.target
    unanswered_tells {m} h =
        let x = unanswered_mem sheet set rs classes p q {m = m} h in
        record {
          move = x.0;
          irredundant = λ y.
              true_false (redundant sheet set classes p m) (redundant_test sheet wf set closed classes r (sharing_at r l) p m mp x.0 y) x.1;
          unanswered = λ u i g.
              true_false (eqb m.label m.label && share set classes m.target u)
              (and_intro (eq-eqb m.label m.label refl)
              ((sharing_at r l).from_round m.target u (closed.targets p m mp x.0) (closed.targets q (labelled m.label u) mq i) g))
              (any_no (λ k. eqb k.label m.label && share set classes m.target k.target) (moves sheet q) x.2
              {a = labelled m.label u} i);
        }

    -- and a move that tells is among those
    tells_listed : (b : ℕ) (u : Configuration) → Tells sheet r p q b u → Memᴰ (labelled b u) (unanswered sheet set rs classes p q)
    tells_listed b u t =
        let m : Move = labelled b u in
        select_mem (λ k. not (redundant sheet set classes p k) && not (answers sheet set classes q k)) (moves sheet p) {a = m} t.move
        (and_intro (not_passes (redundant_no sheet wf set closed classes r (sharing_at r l) p m mp t.move t.irredundant))
        (not_passes (second (tested (answers sheet set classes q m)))))
      where
        second : Tested (answers sheet set classes q (labelled b u)) → answers sheet set classes q (labelled b u) ≡ false
        second (passes h) =
            let x = any_yes (λ k. eqb k.label b && share set classes u k.target) (moves sheet q) h in
            let k : Move = x.0 in
            let e : k.label ≡ b = eqb-true k.label b (and_left (eqb k.label b) (share set classes u k.target) x.2) in
            absurd (t.unanswered k.target (subst (λ (z : ℕ). Memᴰ (labelled z k.target) (moves sheet q)) e x.1)
            ((sharing_at r l).to_round u k.target (closed.targets p (labelled b u) mp t.move) (closed.targets q k mq x.1)
            (and_right (eqb k.label b) (share set classes u k.target) x.2)))
        second (fails h) = h

    -- so none does where there are none
    none_tells : unanswered sheet set rs classes p q ≡ [] → (b : ℕ) (u : Configuration) → Tells sheet r p q b u → ⊥
    none_tells e b u t = Memᴰ.not-nil (subst (λ (ms : List Move). Memᴰ (labelled b u) ms) e (tells_listed b u t))

    -- the first of them is the first that tells
    first_tells : {m : Move} {ms : List Move} → unanswered sheet set rs classes p q ≡ (m ∷ ms) → Telling sheet r p q m.label m.target
    first_tells {m} {ms} e =
        record {
          tells = unanswered_tells (subst (λ (xs : List Move). Memᴰ m xs) (sym e) (Memᴰ.head refl));
          first = λ b u t h.
              none_before_head move_order
              (subst (λ (xs : List Move). Ascends move_before xs) e
              (select_ascends move_order (λ k. not (redundant sheet set classes p k) && not (answers sheet set classes q k)) (moves sheet p) (moves_ascend sheet p)))
              (labelled b u) (subst (λ (xs : List Move). Memᴰ (labelled b u) xs) e (tells_listed b u t)) h;
        }

    -- where there is none, every irredundant move is answered
    none_answered : unanswered sheet set rs classes p q ≡ [] → Answered T (Round T r) p q
    none_answered e =
        answered_yes sheet wf set closed classes r (sharing_at r l) p q mp mq (unanswered_none sheet set rs classes p q e)

    -- ---- their replies
    module _ {m : Move} (im : Memᴰ m (unanswered sheet set rs classes p q)) where
      -- the round of the new pair is a lower one
      reply_lower : (k : Move) → reply_to sheet set rs q m ≡ move k → apart_at m.target k.target ≤ r
      reply_lower k e = reply_apart sheet set rs r l q m k (unanswered_mem sheet set rs classes p q {m = m} im).2 e

      target_in_lem : Memᴰ m.target set
      target_in_lem = closed.targets p m mp (unanswered_mem sheet set rs classes p q {m = m} im).0

      reply_in_lem : (k : Move) → reply_to sheet set rs q m ≡ move k → Memᴰ k.target set
      reply_in_lem k e = closed.targets q k mq (reply_mem sheet set rs q m k e).0

      reply_replied : (k : Move) → reply_to sheet set rs q m ≡ move k → Replied sheet q m.label m.target k (apart_at m.target k.target)
      reply_replied k e = record {
        label = (reply_mem sheet set rs q m k e).1;
        move = (reply_mem sheet set rs q m k e).0;
        round = apart_first m.target k.target target_in_lem (reply_in_lem k e) (omega (arith, reply_lower k e));
        highest = λ u i h f.
            let c : Move = labelled m.label u in
            let a : apart_at m.target u ≤ r = apart_at_most set rs m.target u r l (apart_of u h) in
            let b : apart_at m.target u ≤ apart_at m.target k.target = reply_highest sheet set rs q m k c e h refl in
            omega (arith, b, apart_most m.target u target_in_lem (closed.targets q c mq h) i (omega (arith, a)) f);
        earliest = λ u h f before.
            let c : Move = labelled m.label u in
            let a : apart_at m.target u ≤ r = apart_at_most set rs m.target u r l (apart_of u h) in
            let b : apart_at m.target u ≤ apart_at m.target k.target = reply_highest sheet set rs q m k c e h refl in
            let d : apart_at m.target k.target ≤ apart_at m.target u =
            apart_most m.target u target_in_lem (closed.targets q c mq h) (apart_at m.target k.target) (omega (arith, a)) f in
            reply_earliest sheet set rs q m k c e h refl (omega (arith, b, d))
            (rw (eq-eqb m.label k.label (sym (reply_mem sheet set rs q m k e).1)) before);
      }
        where
          apart_of : (u : Configuration) → Moves sheet q m.label u → share set classes m.target u ≡ false
          apart_of u h =
              let a = any_no (λ k. eqb k.label m.label && share set classes m.target k.target) (moves sheet q)
              (unanswered_mem sheet set rs classes p q {m = m} im).2 {a = labelled m.label u} h in
              rw (eq-eqb m.label m.label refl) at a

      reply_no : reply_to sheet set rs q m ≡ none → (u : Configuration) → Moves sheet q m.label u → ⊥
      reply_no e u h = reply_none sheet set rs q m (labelled m.label u) e h refl

  -- ---- a step and what follows it
  -- from every pair that round n or an earlier one separates, what is given can be walked
  abbrev Walks : ℕ → (Configuration → Configuration → List TrailStep) → Type 0
  Walks n more = (p q : Configuration) → Memᴰ p set → Memᴰ q set → apart_at p q ≤ n → Walkable sheet (apart_at p q) p q (more p q)

  module _ (r : ℕ) (l : r < length rs) (more : Configuration → Configuration → List TrailStep) (ih : Walks r more)
      (p q : Configuration) (mp : Memᴰ p set) (mq : Memᴰ q set) (f : FirstApart T (Round T) (suc r) p q) where
    left_walks : {m : Move} {ms : List Move} → unanswered sheet set rs (get_or rs r []) p q ≡ (m ∷ ms)
        → Walkable sheet (suc r) p q (after sheet set rs more left m (reply_to sheet set rs q m))
    left_walks {m} {ms} a = go (reply_to sheet set rs q m) refl
      where
        i : Memᴰ m (unanswered sheet set rs (get_or rs r []) p q)
        i = subst (λ (xs : List Move). Memᴰ m xs) (sym a) (Memᴰ.head refl)

        go : (k : Reply) → reply_to sheet set rs q m ≡ k → Walkable sheet (suc r) p q (after sheet set rs more left m k)
        go none e = left_alone f (first_tells r l p q mp mq a) (reply_no r l p q mp mq i e)
        go (move k) e =
            left_replied f (first_tells r l p q mp mq a) (reply_replied r l p q mp mq i k e) (reply_lower r l p q mp mq i k e)
            (ih m.target k.target (target_in_lem r l p q mp mq i) (reply_in_lem r l p q mp mq i k e) (reply_lower r l p q mp mq i k e))

    right_walks : {m : Move} {ms : List Move} → ((b : ℕ) (u : Configuration) → Tells sheet r p q b u → ⊥)
        → unanswered sheet set rs (get_or rs r []) q p ≡ (m ∷ ms)
        → Walkable sheet (suc r) p q (after sheet set rs more right m (reply_to sheet set rs p m))
    right_walks {m} {ms} no_left a = go (reply_to sheet set rs p m) refl
      where
        i : Memᴰ m (unanswered sheet set rs (get_or rs r []) q p)
        i = subst (λ (xs : List Move). Memᴰ m xs) (sym a) (Memᴰ.head refl)

        go : (k : Reply) → reply_to sheet set rs p m ≡ k → Walkable sheet (suc r) p q (after sheet set rs more right m k)
        go none e = right_alone f no_left (first_tells r l q p mq mp a) (reply_no r l q p mq mp i e)
        go (move k) e =
            let s : apart_at k.target m.target ≡ apart_at m.target k.target = apart_sym set rs k.target m.target in
            right_replied f no_left (first_tells r l q p mq mp a) (reply_replied r l q p mq mp i k e) (reply_lower r l q p mq mp i k e)
            (subst (λ (n : ℕ). Walkable sheet n k.target m.target (more k.target m.target)) s
            (ih k.target m.target (reply_in_lem r l q p mq mp i k e) (target_in_lem r l q p mq mp i)
            (omega (arith, s, reply_lower r l q p mq mp i k e))))

    first_walks : (ms ks : List Move) → unanswered sheet set rs (get_or rs r []) p q ≡ ms → unanswered sheet set rs (get_or rs r []) q p ≡ ks
        → Walkable sheet (suc r) p q (first_of sheet set rs more p q ms ks)
    first_walks (m ∷ ms) ks a b = left_walks a
    first_walks [] (k ∷ ks) a b = right_walks (none_tells r l p q mp mq a) b
    first_walks [] [] a b = absurd (f.apart (f.together r (omega arith), none_answered r l p q mp mq a, none_answered r l q p mq mp b))

  -- a pair of round 0 ends the trail
  trail_ends : (p q : Configuration) → Memᴰ p set → Memᴰ q set → apart_at p q ≡ 0 → apart_at p q < length rs
      → Walkable sheet (apart_at p q) p q []
  trail_ends p q mp mq z h =
      subst (λ (i : ℕ). Walkable sheet i p q []) (sym z)
      (unequal_stores (subst (λ (i : ℕ). FirstApart T (Round T) i p q) z (apart_first p q mp mq h)))

  -- From two members that some round separates, a trail with enough steps can be walked.
  pub trail_walkable : (n : ℕ) (p q : Configuration) → Memᴰ p set → Memᴰ q set → apart_at p q < length rs → apart_at p q ≤ n
      → Walkable sheet (apart_at p q) p q (trail_from sheet set rs n p q)
  unfolding trail_from
  trail_walkable zero p q mp mq h g = trail_ends p q mp mq (omega arith) h
  trail_walkable (suc n) p q mp mq h g =
      go (trail_walkable n) (eqb (apart_at p q) 0 || eqb (apart_at p q) (length rs)) refl
    where
      go : ((p q : Configuration) → Memᴰ p set → Memᴰ q set → apart_at p q < length rs → apart_at p q ≤ n
          → Walkable sheet (apart_at p q) p q (trail_from sheet set rs n p q))
          → (b : Bool) → (eqb (apart_at p q) 0 || eqb (apart_at p q) (length rs)) ≡ b
          → Walkable sheet (apart_at p q) p q (elim b [
            | true ↦ []
            | false ↦
                let classes = get_or rs (apart_at p q - 1) [] in
                first_of sheet set rs (trail_from sheet set rs n) p q (unanswered sheet set rs classes p q) (unanswered sheet set rs classes q p)
          ])
      go ih true e = trail_ends p q mp mq (ended (tested (eqb (apart_at p q) 0)) e) h
        where
          ended : Tested (eqb (apart_at p q) 0) → (eqb (apart_at p q) 0 || eqb (apart_at p q) (length rs)) ≡ true → apart_at p q ≡ 0
          ended (passes a) e = eqb-true (apart_at p q) 0 a
          ended (fails a) e =
              let b : eqb (apart_at p q) (length rs) ≡ true = rw a at e in
              absurd (omega (arith, h, eqb-true (apart_at p q) (length rs) b))
      go ih false e =
          let r : ℕ = apart_at p q - 1 in
          let s : apart_at p q ≡ suc r =
          omega (arith, eqb-false (apart_at p q) 0 (or_false (eqb (apart_at p q) 0) (eqb (apart_at p q) (length rs)) e).0) in
          let l : r < length rs = omega (arith, h) in
          subst (λ (i : ℕ). Walkable sheet i p q
          (first_of sheet set rs (trail_from sheet set rs n) p q (unanswered sheet set rs (get_or rs r []) p q)
          (unanswered sheet set rs (get_or rs r []) q p))) (sym s)
          (first_walks r l (trail_from sheet set rs n) (λ x y mx my k. ih x y mx my (omega (arith, k, l)) (omega (arith, k, s, g))) p q mp mq
          (subst (λ (i : ℕ). FirstApart T (Round T) i p q) s (apart_first p q mp mq h))
          (unanswered sheet set rs (get_or rs r []) p q) (unanswered sheet set rs (get_or rs r []) q p) refl refl)
