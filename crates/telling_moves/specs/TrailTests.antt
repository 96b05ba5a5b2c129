-- What each test of the trail comes to, way by way.
use Rattle.std.specs.Prelude.{◌≡◌, Bool, true, false, not, ◌&&◌, ℕ, ◌+◌, ◌/◌, ◌%◌, ◌≤◌, ◌<◌, length, get_or, ltb}
use Rattle.std.proofs.Common.{sym, ap, ◌∙◌, subst, arith, eq-eqb, ne_eqb}
use mathlib.Core.List.{List, Memᴰ}
use Rattle.work_layout.specs.PlacesPassed.{holds_none, holds_next}
use Rattle.work_layout.specs.SetLayout.{first_move, move_total, move_numbers_at}
use Rattle.dominators.specs.RoundLayout.{number_in}
use Rattle.dominators.specs.FoundMembers.{LiftedAt}
use Rattle.dominators.specs.DominatorSearch.{comes_below}
use Rattle.separations.specs.ApartClasses.{Falls}
use Rattle.telling_moves.specs.PlaceTests.{some_below, some_none, some_next, some_hit, First, NoneBefore}
use Rattle.telling_moves.specs.TrailLayout.{apart_at, Followable, MovesOfOne, MoveOfOne, PairFits}
use Rattle.telling_moves.specs.TrailPlaces.{move_number, lifted_place, dominates_at, redundant_at, answers_at, answered_at, tells_at, lifted_found_at, lifted_place_is}
use Rattle.work_layout.specs.WorkLayout.{work_end, moves_at, member_room, move_room}
use Rattle.work_layout.specs.ClassLayout.{class_in}

-- ---- what reading needs
-- what looking the first round apart of two members up needs
abbrev pub ApartFits : List ℕ → ℕ → ℕ → Type 0
ApartFits w i j = (i ≤ member_room) × (j ≤ member_room) × Falls w (class_in w i) (class_in w j)

pub apart_fits : {w : List ℕ} {n last : ℕ} → Followable w n last → (i j : ℕ) → i < n → j < n → ApartFits w i j
apart_fits {w} {n} {last} F i j li lj =
    let H = F.held.held in
    let B = F.births in (
      omega (arith, H.few.0),
      omega (arith, H.few.0),
      record {
        count = B.count;
        few = B.few;
        long = H.long;
        inside = (B.classes i li, B.classes j lj);
        lower = B.births.from_lower;
      },
    )

pub pair_apart_fits : {w : List ℕ} {last i j : ℕ} → PairFits w last i j → ApartFits w i j
pair_apart_fits {w} {last} {i} {j} P = apart_fits P.follows i j P.left P.right

-- the slice is long enough, and a place of a member is small
pub record PlaceFits (w : List ℕ) (i : ℕ) : Type 0 where
  pub long : work_end ≤ length w
  pub few : i < member_room

pub place_fits : {w : List ℕ} {n last : ℕ} → Followable w n last → (i : ℕ) → i < n → PlaceFits w i
place_fits F i l = record { long = F.held.held.long; few = omega (arith, F.held.held.few.0) }

-- where the moves of a member are, and what they lead to
pub record MoveFits (w : List ℕ) (n first j : ℕ) : Type 0 where
  pub long : work_end ≤ length w
  pub few : n ≤ member_room
  pub span : first + j < move_room
  pub target : get_or w (moves_at + first + j) 0 % 65536 < n

pub move_fits : {w : List ℕ} {n last : ℕ} → Followable w n last → {first j : ℕ} → MoveOfOne w n first j → MoveFits w n first j
move_fits {w} {n} {last} F {first} {j} M =
    let H = F.held.held in
    let e = M.first_is in
    record {
      long = H.long;
      few = H.few.0;
      span = omega (arith, H.spans M.place M.inside, H.few.1, M.within, e);
      target = subst (λ (f : ℕ). get_or w (moves_at + f + j) 0 % 65536 < n) e
          (H.targets M.place (move_number w M.place j) M.inside
          (number_in F.sheet F.set w n F.m H M.place j M.inside M.within));
    }

-- the move at a lower place is one of the same member
pub earlier_move : {w : List ℕ} {n first j : ℕ} → MoveOfOne w n first j → (k : ℕ) → k < j → MoveOfOne w n first k
earlier_move M k l = record { place = M.place; inside = M.inside; first_is = M.first_is; within = omega (arith, M.within) }

pub move_of_lem : (w : List ℕ) (n p first k total : ℕ) → p < n → first ≡ first_move w p → total ≡ move_total w p → k < total
    → MoveOfOne w n first k
move_of_lem w n p first k total lp e f l = record { place = p; inside = lp; first_is = sym e; within = omega arith }

pub two_moves : {w : List ℕ} {n first j : ℕ} → MoveOfOne w n first j → (k : ℕ) → k < j
    → MovesOfOne w n (get_or w (moves_at + first + k) 0) (get_or w (moves_at + first + j) 0)
two_moves {w} {n} {first} {j} M k l = record {
  place = M.place;
  inside = M.inside;
  x_at = (k, omega (arith, M.within), ap (λ (f : ℕ). get_or w (moves_at + f + k) 0) (sym M.first_is));
  y_at = (j, M.within, ap (λ (f : ℕ). get_or w (moves_at + f + j) 0) (sym M.first_is));
}

-- ---- one move beside another
module _ {w : List ℕ} {n last : ℕ} (F : Followable w n last) (x y : ℕ) (M : MovesOfOne w n x y) where
  x_in : Memᴰ x (move_numbers_at w M.place)
  x_in =
      subst (λ (z : ℕ). Memᴰ z (move_numbers_at w M.place)) (sym M.x_at.2)
      (number_in F.sheet F.set w n F.m F.held.held M.place M.x_at.0 M.inside M.x_at.1)

  y_in : Memᴰ y (move_numbers_at w M.place)
  y_in =
      subst (λ (z : ℕ). Memᴰ z (move_numbers_at w M.place)) (sym M.y_at.2)
      (number_in F.sheet F.set w n F.m F.held.held M.place M.y_at.0 M.inside M.y_at.1)

  pub x_target : x % 65536 < n
  x_target = F.held.held.targets M.place x M.inside x_in

  pub y_target : y % 65536 < n
  y_target = F.held.held.targets M.place y M.inside y_in

  pub dominates_no : (r : ℕ) → comes_below w x y ≡ false → false ≡ dominates_at w n last r x y
  dominates_no r c =
      sym (ap (λ (b : Bool). b && ltb r (apart_at w last (y % 65536) (lifted_place w n (y % 65536) (x % 65536)))) c)

  module _ (c : comes_below w x y ≡ true) (q : ℕ) (L : LiftedAt w n (y % 65536) (x % 65536) q) where
    pub lifted_inside : q < n
    lifted_inside = (lifted_found_at F.held M.place y x M.inside y_in x_in c q L).0

    pub dominates_by : (r a : ℕ) → a ≡ apart_at w last (y % 65536) q → ltb r a ≡ dominates_at w n last r x y
    dominates_by r a e =
        ap (ltb r) (e ∙ ap (apart_at w last (y % 65536)) (sym (lifted_place_is F.held M.place y x M.inside y_in x_in c q L)))
        ∙ sym (ap (λ (b : Bool). b && ltb r (apart_at w last (y % 65536) (lifted_place w n (y % 65536) (x % 65536)))) c)

-- ---- redundancy
module _ (w : List ℕ) (n last r first j : ℕ) where
  -- none of the first k moves makes the j-th redundant
  abbrev pub NotRedundant : ℕ → Type 0
  NotRedundant k =
      (k ≤ j) × (some_below (λ i. dominates_at w n last r (get_or w (moves_at + first + i) 0) (get_or w (moves_at + first + j) 0)) k ≡ false)

  abbrev test : ℕ → Bool
  test i = dominates_at w n last r (get_or w (moves_at + first + i) 0) (get_or w (moves_at + first + j) 0)

  pub redundant_first : NotRedundant 0
  redundant_first = (omega arith, some_none test)

  pub redundant_next : (k : ℕ) (b : Bool) → k < j → NotRedundant k
      → b ≡ dominates_at w n last r (get_or w (moves_at + first + k) 0) (get_or w (moves_at + first + j) 0) → b ≡ false → NotRedundant (k + 1)
  redundant_next k b l N e f = (omega arith, some_next test k N.1 (sym e ∙ f))

  pub redundant_hit : (k : ℕ) (b : Bool) → k < j
      → b ≡ dominates_at w n last r (get_or w (moves_at + first + k) 0) (get_or w (moves_at + first + j) 0) → b ≡ true
      → true ≡ redundant_at w n last r first j
  redundant_hit k b l e t = sym (some_hit test j k l (sym e ∙ t))

  pub redundant_end : (k : ℕ) → NotRedundant k → j ≤ k → false ≡ redundant_at w n last r first j
  redundant_end k N h =
      let e : k ≡ j = omega (arith, N.0) in
      sym (subst (λ (i : ℕ). some_below test i ≡ false) e N.1)

-- ---- answers
module _ (w : List ℕ) (last r x y : ℕ) where
  pub answers_no : (x / 65536 ≡ y / 65536 → ⊥) → false ≡ answers_at w last r x y
  answers_no d = sym (ap (λ (b : Bool). b && ltb r (apart_at w last (y % 65536) (x % 65536))) (ne_eqb (x / 65536) (y / 65536) d))

  pub answers_by : (a : ℕ) → x / 65536 ≡ y / 65536 → a ≡ apart_at w last (y % 65536) (x % 65536) → ltb r a ≡ answers_at w last r x y
  answers_by a e f =
      ap (ltb r) f
      ∙ sym (ap (λ (b : Bool). b && ltb r (apart_at w last (y % 65536) (x % 65536))) (eq-eqb (x / 65536) (y / 65536) e))

module _ (w : List ℕ) (last r q y : ℕ) where
  -- none of the first k moves of q answers y
  abbrev pub NotAnswered : ℕ → Type 0
  NotAnswered k = (k ≤ move_total w q) × (some_below (λ i. answers_at w last r (move_number w q i) y) k ≡ false)

  abbrev by : ℕ → Bool
  by i = answers_at w last r (move_number w q i) y

  pub answered_first : NotAnswered 0
  answered_first = (omega arith, some_none by)

  module _ (first total : ℕ) (ef : first ≡ first_move w q) (et : total ≡ move_total w q) where
    by_is : (k : ℕ) → answers_at w last r (get_or w (moves_at + first + k) 0) y ≡ by k
    by_is k = ap (λ (f : ℕ). answers_at w last r (get_or w (moves_at + f + k) 0) y) ef

    pub answered_next : (k : ℕ) (b : Bool) → k < total → NotAnswered k
        → b ≡ answers_at w last r (get_or w (moves_at + first + k) 0) y → b ≡ false → NotAnswered (k + 1)
    answered_next k b l N e f = (omega arith, some_next by k N.1 (sym (by_is k) ∙ sym e ∙ f))

    pub answered_hit : (k : ℕ) (b : Bool) → k < total
        → b ≡ answers_at w last r (get_or w (moves_at + first + k) 0) y → b ≡ true → true ≡ answered_at w last r q y
    answered_hit k b l e t = sym (some_hit by (move_total w q) k (omega arith) (sym (by_is k) ∙ sym e ∙ t))

    pub answered_end : (k : ℕ) → NotAnswered k → total ≤ k → false ≡ answered_at w last r q y
    answered_end k N h =
        let e : k ≡ move_total w q = omega (arith, N.0) in
        sym (subst (λ (i : ℕ). some_below by i ≡ false) e N.1)

-- ---- the move that tells
module _ (w : List ℕ) (n last r first q j : ℕ) where
  pub tells_no : (a : Bool) → a ≡ answered_at w last r q (get_or w (moves_at + first + j) 0) → a ≡ true
      → false ≡ tells_at w n last r first q j
  tells_no a e t = sym (ap (λ (b : Bool). not b && not (redundant_at w n last r first j)) (sym e ∙ t))

  pub tells_by : (a b : Bool) → a ≡ answered_at w last r q (get_or w (moves_at + first + j) 0) → a ≡ false
      → b ≡ redundant_at w n last r first j → not b ≡ tells_at w n last r first q j
  tells_by a b e t f =
      ap not f ∙ sym (ap (λ (b : Bool). not b && not (redundant_at w n last r first j)) (sym e ∙ t))

module _ (w : List ℕ) (n last r p q : ℕ) where
  -- none of the first j moves of p tells
  abbrev pub NoneTells : ℕ → Type 0
  NoneTells j = (j ≤ move_total w p) × NoneBefore (tells_at w n last r (first_move w p) q) j

  pub none_tells_first : NoneTells 0
  none_tells_first = (omega arith, holds_none (λ j. tells_at w n last r (first_move w p) q j ≡ false) 0)

  module _ (first total : ℕ) (ef : first ≡ first_move w p) (et : total ≡ move_total w p) where
    told : (j : ℕ) (b : Bool) → b ≡ tells_at w n last r first q j → b ≡ tells_at w n last r (first_move w p) q j
    told j b e = e ∙ ap (λ (f : ℕ). tells_at w n last r f q j) ef

    pub none_tells_next : (j : ℕ) (b : Bool) → j < total → NoneTells j → b ≡ tells_at w n last r first q j → b ≡ false → NoneTells (j + 1)
    none_tells_next j b l N e f =
        (omega arith, holds_next (λ k. tells_at w n last r (first_move w p) q k ≡ false) 0 j N.1 (sym (told j b e) ∙ f))

    pub tells_hit : (j : ℕ) (b : Bool) → j < total → NoneTells j → b ≡ tells_at w n last r first q j → b ≡ true
        → First (tells_at w n last r (first_move w p) q) (move_total w p) j
    tells_hit j b l N e t = record { within = (omega arith, N.0); passed = N.1; here = λ _. sym (told j b e) ∙ t }

    pub tells_end : (j : ℕ) → NoneTells j → total ≤ j → First (tells_at w n last r (first_move w p) q) (move_total w p) total
    tells_end j N h = record {
      within = (omega arith, omega arith);
      passed = λ k m l. N.1 k m (omega arith);
      here = λ l. absurd (omega arith);
    }
