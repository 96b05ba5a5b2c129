-- Rounds, redundant moves, answers, replies and steps by places in the work slice, and that they are those of the set.
use Rattle.std.specs.Prelude.{◌≡◌, refl, Bool, true, false, not, ◌&&◌, ℕ, ◌+◌, ◌/◌, ◌%◌, ◌≤◌, ◌<◌, length, get_or, eqb, ltb}
use Rattle.std.proofs.Common.{sym, ap, ◌∙◌, arith, ltb-true, ltb-false}
use Rattle.std.proofs.Math.Path.{ap₂, subst}
use mathlib.Core.List.{List, [], ◌∷◌, Memᴰ}
use Rattle.work_layout.specs.TestLaws.{true_false, and_left, and_right, Tested, tested, passes, fails}
use Rattle.dominators.specs.FactSets.{Within}
use Rattle.work_layout.specs.Stores.{strictly_below, includes}
use Rattle.separations.specs.StoreLaws.{below_within, includes_within, within_includes}
use Rattle.dominators.specs.Sheet.{Configuration, Sheet}
use Rattle.dominators.specs.Orders.{Move}
use Rattle.dominators.specs.Moves.{moves, add}
use Rattle.work_layout.specs.SetLayout.{member_at, set_in, first_move, move_total, move_numbers_at, move_from}
use Rattle.work_layout.specs.Classes.{place_of, share}
use Rattle.work_layout.specs.Rounds.{redundant, answers, rounds, apart_in}
use Rattle.work_layout.specs.Trail.{unanswered}
use Rattle.work_layout.specs.SheetTransitions.{transitions}
use Rattle.dominators.specs.SheetMoves.{conclusions_fit}
use Rattle.dominators.specs.RoundLaws.{Sharing, sharing}
use Rattle.dominators.specs.ResultLaws.{rounds_at}
use Rattle.dominators.specs.TrailLaws.{apart_together, apart_at_lem}
use Rattle.dominators.specs.EarlierRounds.{round_earlier}
use Rattle.dominators.specs.AddedStores.{added_is}
use Rattle.dominators.specs.DominatingMoves.{dominates, passed_own, kept_redundant}
use Rattle.dominators.specs.RoundLayout.{held_count_lem, held_in, held_found, held_place, number_in, move_at, moves_count, move_in, lifted_target, dominates_label, dominates_outside, lifted_in}
use Rattle.dominators.specs.FoundMembers.{lifted_of, LiftedAt, lifted_there, held_ordered}
use Rattle.dominators.specs.DominatorSearch.{comes_below}
use Rattle.telling_moves.specs.PlaceTests.{some_below, some_yes, some_no, any_places, First, select_none, select_first}
use Rattle.telling_moves.specs.TrailLayout.{apart_at, TrailHeld}
use Rattle.work_layout.specs.WorkLayout.{moves_at}

-- ---- what is computed
-- the number of the move at place j of the member at place i
abbrev pub move_number : List ℕ → ℕ → ℕ → ℕ
move_number w i j = get_or w (moves_at + first_move w i + j) 0

-- the place of the member with the store of member t and the threads of member u
unfoldable pub lifted_place : List ℕ → ℕ → ℕ → ℕ → ℕ
lifted_place w n t u = place_of (set_in w n) (lifted_of w t u)

-- move x makes move y redundant in round r
abbrev pub dominates_at : List ℕ → ℕ → ℕ → ℕ → ℕ → ℕ → Bool
dominates_at w n last r x y =
    comes_below w x y && ltb r (apart_at w last (y % 65536) (lifted_place w n (y % 65536) (x % 65536)))

-- of the moves from `first` on, one before the j-th makes the j-th redundant in round r
abbrev pub redundant_at : List ℕ → ℕ → ℕ → ℕ → ℕ → ℕ → Bool
redundant_at w n last r first j =
    some_below (λ k. dominates_at w n last r (get_or w (moves_at + first + k) 0) (get_or w (moves_at + first + j) 0)) j

-- move x answers move y in round r: its label, into the class of its target
abbrev pub answers_at : List ℕ → ℕ → ℕ → ℕ → ℕ → Bool
answers_at w last r x y = eqb (x / 65536) (y / 65536) && ltb r (apart_at w last (y % 65536) (x % 65536))

-- a move of the member at place q answers move y in round r
abbrev pub answered_at : List ℕ → ℕ → ℕ → ℕ → ℕ → Bool
answered_at w last r q y = some_below (λ k. answers_at w last r (move_number w q k) y) (move_total w q)

-- the j-th move from `first` on is irredundant in round r, and the member at place q does not answer it
abbrev pub tells_at : List ℕ → ℕ → ℕ → ℕ → ℕ → ℕ → ℕ → Bool
tells_at w n last r first q j = not (answered_at w last r q (get_or w (moves_at + first + j) 0)) && not (redundant_at w n last r first j)

and_turned : (a b : Bool) → (not a && not b) ≡ (not b && not a)
and_turned true true = refl
and_turned true false = refl
and_turned false true = refl
and_turned false false = refl

-- ---- that it is the set's
module _ {sheet : Sheet} {set : List Configuration} {w : List ℕ} {n m last : ℕ} (T : TrailHeld sheet set w n m last) where
  -- the classes of the rounds
  abbrev rs : List (List ℕ)
  rs = rounds sheet set

  some : (i : ℕ) → i < n → 1 ≤ length set
  some i l = omega (arith, held_count_lem sheet set w n m T.held)

  -- the k-th list is round k
  pub sharing_held : (k i : ℕ) → k < last → i < n → Sharing sheet T.wf set T.closed (get_or rs k []) k
  sharing_held k i l h =
      subst (λ (c : List ℕ). Sharing sheet T.wf set T.closed c k)
      (sym (rounds_at sheet set T.wf T.closed (some i h) k (omega (arith, T.rounds_are)))) (sharing sheet T.wf set T.closed k)

  -- two members share a class in the rounds before the first that has them apart, and in no other
  pub share_before : (k i j : ℕ) → k < last → i < n → j < n
      → share set (get_or rs k []) (member_at w i) (member_at w j) ≡ ltb k (apart_at w last i j)
  share_before k i j l li lj = go (tested (ltb k (apart_at w last i j))) (tested (share set (get_or rs k []) (member_at w i) (member_at w j)))
    where
      go : Tested (ltb k (apart_at w last i j)) → Tested (share set (get_or rs k []) (member_at w i) (member_at w j))
          → share set (get_or rs k []) (member_at w i) (member_at w j) ≡ ltb k (apart_at w last i j)
      go (passes y) t =
          apart_together set rs (member_at w i) (member_at w j) k
          (omega (arith, T.first_apart i j li lj, ltb-true k (apart_at w last i j) y))
          ∙ sym y
      go (fails y) (fails z) = z ∙ sym y
      go (fails y) (passes z) =
          let a : ℕ = apart_in set rs (member_at w i) (member_at w j) in
          let h : a ≤ k = omega (arith, T.first_apart i j li lj, ltb-false k (apart_at w last i j) y) in
          let mi = held_in sheet set w n m T.held i li in
          let mj = held_in sheet set w n m T.held j lj in
          true_false (share set (get_or rs a []) (member_at w i) (member_at w j))
          ((sharing_held a i (omega arith) li).from_round (member_at w i) (member_at w j) mi mj
          (round_earlier (transitions sheet) k a (member_at w i) (member_at w j) h
          ((sharing_held k i l li).to_round (member_at w i) (member_at w j) mi mj z)))
          (apart_at_lem set rs (member_at w i) (member_at w j) (omega (arith, T.rounds_are)))

  -- ---- the member that shows whether a move dominates another one of the same member
  module _ (i y x : ℕ) (l : i < n) (iy : Memᴰ y (move_numbers_at w i)) (ix : Memᴰ x (move_numbers_at w i)) where
    target_y : y % 65536 < n
    target_y = T.held.targets i y l iy

    target_x : x % 65536 < n
    target_x = T.held.targets i x l ix

    module _ (c : comes_below w x y ≡ true) where
      below : strictly_below (x / 65536) (y / 65536) ≡ true
      below = and_left (strictly_below (x / 65536) (y / 65536)) (includes (member_at w (y % 65536)).store (member_at w (x % 65536)).store) c

      inside : Within (member_at w (x % 65536)).store (member_at w (y % 65536)).store
      inside =
          includes_within (member_at w (y % 65536)).store (member_at w (x % 65536)).store
          (and_right (strictly_below (x / 65536) (y / 65536)) (includes (member_at w (y % 65536)).store (member_at w (x % 65536)).store) c)

      -- what is looked for is found
      pub lifted_found_at : (q : ℕ) → LiftedAt w n (y % 65536) (x % 65536) q
          → (q < n) × (member_at w q ≡ lifted_of w (y % 65536) (x % 65536))
      lifted_found_at q f =
          lifted_there f (held_ordered T.held T.ascends) target_y target_x
          (subst (λ (c : List Configuration). Memᴰ (lifted_target w y x) c) (sym T.held.members)
          (lifted_in sheet set w n m T.held T.wf T.closed i l y x iy ix below inside))

      -- at its place
      pub lifted_place_is : (q : ℕ) → LiftedAt w n (y % 65536) (x % 65536) q → lifted_place w n (y % 65536) (x % 65536) ≡ q
      unfolding lifted_place
      lifted_place_is q f =
          let z = lifted_found_at q f in
          ap₂ (λ (s : List Configuration) (p : Configuration). place_of s p) T.held.members (sym z.1)
          ∙ held_place sheet set w n m T.held T.ascends q z.0

      -- the set has it there
      lifted_self : (lifted_place w n (y % 65536) (x % 65536) < n)
          × (member_at w (lifted_place w n (y % 65536) (x % 65536)) ≡ lifted_of w (y % 65536) (x % 65536))
      unfolding lifted_place
      lifted_self =
          subst (λ (s : List Configuration). (place_of s (lifted_of w (y % 65536) (x % 65536)) < n)
          × (member_at w (place_of s (lifted_of w (y % 65536) (x % 65536))) ≡ lifted_of w (y % 65536) (x % 65536))) (sym T.held.members)
          (held_found sheet set w n m T.held (lifted_of w (y % 65536) (x % 65536))
          (lifted_in sheet set w n m T.held T.wf T.closed i l y x iy ix below inside))

      dominates_lifted : (k q : ℕ) → k < last → q < n → member_at w q ≡ lifted_of w (y % 65536) (x % 65536)
          → dominates sheet set (get_or rs k []) (move_from w y) (move_from w x) ≡ ltb k (apart_at w last (y % 65536) q)
      dominates_lifted k q h lq e =
          let a : add sheet (y / 65536) (member_at w (x % 65536)) ≡ lifted_of w (y % 65536) (x % 65536) =
          added_is sheet (conclusions_fit sheet T.wf) (member_at w i) (x / 65536) (y / 65536) (member_at w (x % 65536))
          (member_at w (y % 65536)) (move_in sheet set w n m T.held i x l ix) (move_in sheet set w n m T.held i y l iy)
          (below_within (x / 65536) (y / 65536) below) inside in
          ap (λ (b : Bool). b && share set (get_or rs k []) (member_at w (y % 65536)) (add sheet (y / 65536) (member_at w (x % 65536)))) below
          ∙ ap (share set (get_or rs k []) (member_at w (y % 65536))) (a ∙ sym e)
          ∙ share_before k (y % 65536) q h target_y lq

    -- a move that does not come below does not dominate
    dominates_not : (k : ℕ) → k < last → comes_below w x y ≡ false
        → dominates sheet set (get_or rs k []) (move_from w y) (move_from w x) ≡ false
    dominates_not k h c = go (tested (strictly_below (x / 65536) (y / 65536)))
      where
        not_within : strictly_below (x / 65536) (y / 65536) ≡ true
            → Within (member_at w (x % 65536)).store (member_at w (y % 65536)).store → ⊥
        not_within b s =
            true_false (includes (member_at w (y % 65536)).store (member_at w (x % 65536)).store) (within_includes s)
            (subst (λ (t : Bool). (t && includes (member_at w (y % 65536)).store (member_at w (x % 65536)).store) ≡ false) b c)

        go : Tested (strictly_below (x / 65536) (y / 65536)) → dominates sheet set (get_or rs k []) (move_from w y) (move_from w x) ≡ false
        go (fails b) = dominates_label sheet set (get_or rs k []) w y x b
        go (passes b) =
            dominates_outside sheet set w n m T.held T.wf T.closed i l y x iy ix b (get_or rs k []) k (sharing_held k i h l)
            (not_within b)

  -- ---- one move beside another, by places
  module _ (k i : ℕ) (h : k < last) (l : i < n) where
    number_at_lem : (j : ℕ) → j < move_total w i → Memᴰ (move_number w i j) (move_numbers_at w i)
    number_at_lem j lj = number_in sheet set w n m T.held i j l lj

    -- where it comes below, some place has the lifted target
    pub dominates_places : (x y : ℕ) → Memᴰ y (move_numbers_at w i) → Memᴰ x (move_numbers_at w i)
        → dominates sheet set (get_or rs k []) (move_from w y) (move_from w x) ≡ dominates_at w n last k x y
    dominates_places x y iy ix = go (tested (comes_below w x y))
      where
        go : Tested (comes_below w x y) → dominates sheet set (get_or rs k []) (move_from w y) (move_from w x) ≡ dominates_at w n last k x y
        go (fails c) =
            dominates_not i y x l iy ix k h c
            ∙ sym (ap (λ (b : Bool). b && ltb k (apart_at w last (y % 65536) (lifted_place w n (y % 65536) (x % 65536)))) c)
        go (passes c) =
            let z = lifted_self i y x l iy ix c in
            dominates_lifted i y x l iy ix c k (lifted_place w n (y % 65536) (x % 65536)) h z.0 z.1
            ∙ sym (ap (λ (b : Bool). b && ltb k (apart_at w last (y % 65536) (lifted_place w n (y % 65536) (x % 65536)))) c)

    -- the moves of the member at place i
    pub move_number_lem : (j : ℕ) (d : Move) → j < move_total w i → get_or (moves sheet (member_at w i)) j d ≡ move_from w (move_number w i j)
    move_number_lem j d lj = move_at sheet set w n m T.held i j d l lj

    -- the j-th move is redundant exactly when an earlier one makes it so
    pub redundant_places : (j : ℕ) → j < move_total w i
        → redundant sheet set (get_or rs k []) (member_at w i) (move_from w (move_number w i j)) ≡ redundant_at w n last k (first_move w i) j
    redundant_places j lj = go (tested (redundant_at w n last k (first_move w i) j))
      where
        at : (a : ℕ) → a < move_total w i
            → dominates sheet set (get_or rs k []) (move_from w (move_number w i j))
            (get_or (moves sheet (member_at w i)) a (move_from w (move_number w i j)))
            ≡ dominates_at w n last k (move_number w i a) (move_number w i j)
        at a la =
            ap (dominates sheet set (get_or rs k []) (move_from w (move_number w i j))) (move_number_lem a (move_from w (move_number w i j)) la)
            ∙ dominates_places (move_number w i a) (move_number w i j) (number_at_lem j lj) (number_at_lem a la)

        go : Tested (redundant_at w n last k (first_move w i) j)
            → redundant sheet set (get_or rs k []) (member_at w i) (move_from w (move_number w i j)) ≡ redundant_at w n last k (first_move w i) j
        go (passes t) =
            let x = some_yes (λ a. dominates_at w n last k (move_number w i a) (move_number w i j)) j t in
            let b : x.0 < move_total w i = omega (arith, x.1) in
            kept_redundant sheet set (get_or rs k []) (member_at w i) (move_from w (move_number w i j)) x.0
            (omega (arith, moves_count sheet set w n m T.held i l)) (at x.0 b ∙ x.2) ∙ sym t
        go (fails t) =
            passed_own sheet set (get_or rs k []) (member_at w i) (move_from w (move_number w i j)) j
            (move_number_lem j (move_from w (move_number w i j)) lj)
            (record {
              fail = λ a la lm.
                  at a (omega arith) ∙ some_no (λ a. dominates_at w n last k (move_number w i a) (move_number w i j)) j a t la;
            })
            ∙ sym t

    -- the member at place i answers a move exactly when one of its moves does
    pub answers_places : (y : ℕ) → y % 65536 < n
        → answers sheet set (get_or rs k []) (member_at w i) (move_from w y) ≡ answered_at w last k i y
    answers_places y ly =
        any_places (λ a. eqb a.label (y / 65536) && share set (get_or rs k []) (member_at w (y % 65536)) a.target)
        (moves sheet (member_at w i))
        (move_from w y) (λ a. answers_at w last k (move_number w i a) y) (move_total w i) (moves_count sheet set w n m T.held i l) at
      where
        at : (a : ℕ) → a < move_total w i
            → (eqb (get_or (moves sheet (member_at w i)) a (move_from w y)).label (y / 65536)
            && share set (get_or rs k []) (member_at w (y % 65536)) (get_or (moves sheet (member_at w i)) a (move_from w y)).target)
            ≡ answers_at w last k (move_number w i a) y
        at a la =
            ap (λ (x : Move). eqb x.label (y / 65536) && share set (get_or rs k []) (member_at w (y % 65536)) x.target)
            (move_number_lem a (move_from w y) la)
            ∙ ap (λ (b : Bool). eqb (move_number w i a / 65536) (y / 65536) && b)
            (share_before k (y % 65536) (move_number w i a % 65536) h ly (T.held.targets i (move_number w i a) l (number_at_lem a la)))

  -- ---- the moves that tell
  -- the test that `unanswered` selects by
  abbrev pub untold : ℕ → ℕ → ℕ → Move → Bool
  untold k p q a = not (redundant sheet set (get_or rs k []) (member_at w p) a) && not (answers sheet set (get_or rs k []) (member_at w q) a)

  module _ (k p q : ℕ) (h : k < last) (lp : p < n) (lq : q < n) where
    tells_places : (j : ℕ) (d : Move) → j < move_total w p
        → untold k p q (get_or (moves sheet (member_at w p)) j d) ≡ tells_at w n last k (first_move w p) q j
    tells_places j d lj =
        ap (untold k p q) (move_number_lem k p h lp j d lj)
        ∙ ap₂ (λ (a b : Bool). not a && not b) (redundant_places k p h lp j lj)
        (answers_places k q h lq (move_number w p j) (T.held.targets p (move_number w p j) lp (number_at_lem k p h lp j lj)))
        ∙ and_turned (redundant_at w n last k (first_move w p) j) (answered_at w last k q (move_number w p j))

    -- no move tells
    pub untold_none : First (tells_at w n last k (first_move w p) q) (move_total w p) (move_total w p)
        → unanswered sheet set rs (get_or rs k []) (member_at w p) (member_at w q) ≡ []
    untold_none F =
        select_none (untold k p q) (moves sheet (member_at w p)) (move_from w 0)
        (λ j l.
        let b : j < move_total w p = omega (arith, moves_count sheet set w n m T.held p lp) in
        tells_places j (move_from w 0) b ∙ F.passed j (omega arith) b)

    -- the first move that tells is the first one without an answer
    pub untold_first : (j : ℕ) → First (tells_at w n last k (first_move w p) q) (move_total w p) j → j < move_total w p
        → (ms : List Move) × (unanswered sheet set rs (get_or rs k []) (member_at w p) (member_at w q) ≡ move_from w (move_number w p j) ∷ ms)
    untold_first j F l =
        let c : length (moves sheet (member_at w p)) ≡ move_total w p = moves_count sheet set w n m T.held p lp in
        let x = select_first (untold k p q) (moves sheet (member_at w p)) (move_from w 0) j (omega arith)
        (λ a la. tells_places a (move_from w 0) (omega arith) ∙ F.passed a (omega arith) la)
        (tells_places j (move_from w 0) l ∙ F.here l) in
        (x.0, x.1 ∙ ap (λ (a : Move). a ∷ x.0) (move_number_lem k p h lp j (move_from w 0) l))
