-- A set in the work slice beside the classes that keep their numbers and their births, after the rounds: what the trail is
-- worked out from.
use Rattle.std.specs.Prelude.{◌≡◌, List, length, get_or, eqb}
use Rattle.std.proofs.Math.Path.{refl, sym, ap₂}
use Rattle.std.proofs.Common.{ap, ◌∙◌, inr}
use Prim.Native.Nat.{ℕ, zero, suc, ◌+◌, ◌/◌, ◌%◌, ◌≤◌, ◌<◌, min, max}
use native.Mathlib.Omega.{arith}
use borrow.Author.Tests.{eqb-true, eqb-false}
use Rattle.work_layout.specs.TestLaws.{Tested, tested, passes, fails}
use Rattle.dominators.specs.Lists.{Ascends}
use Rattle.work_layout.specs.Frames.{SameOutside}
use Rattle.dominators.specs.Sheet.{Configuration, Sheet}
use Rattle.dominators.specs.WellFormed.{WellFormed}
use Rattle.dominators.specs.Orders.{configuration_before}
use Rattle.work_layout.specs.SetLayout.{member_at, move_total, first_move, SetHeld}
use Rattle.work_layout.specs.Rounds.{rounds, apart_in}
use Rattle.dominators.specs.RoundLaws.{ClosedList}
use Rattle.dominators.specs.ResultLaws.{result_is}
use Rattle.dominators.specs.ClassBirths.{apart, apart_from_lem, Births, apart_same, apart_founders, apart_up}
use Rattle.dominators.specs.ClassesPresent.{births_agree}
use Rattle.dominators.specs.RoundLayout.{SameSet, same_set_low, held_same, held_member_same, held_count_lem}
use Rattle.work_layout.specs.WorkLayout.{moves_at, classes_at, births_at, steps_at, steps_end, member_room}
use Rattle.work_layout.specs.ClassLayout.{class_in, born_in, from_in_lem}

-- the first round that has the members at places i and j apart, by the births of their classes; last where none has
abbrev pub apart_at : List ℕ → ℕ → ℕ → ℕ → ℕ
apart_at w last i j = apart (from_in_lem w) (born_in w) last (class_in w i) (class_in w j)

-- A closed set stands in the slice, and the births give the first of its `last` rounds that has two members apart.
pub record TrailHeld (sheet : Sheet) (set : List Configuration) (w : List ℕ) (n m last : ℕ) : Type 0 where
  pub held : SetHeld sheet set w n m
  pub wf : WellFormed sheet
  pub closed : ClosedList sheet set
  pub ascends : Ascends configuration_before set
  pub rounds_are : length (rounds sheet set) ≡ last
  pub first_apart : (i j : ℕ) → i < n → j < n → apart_at w last i j ≡ apart_in set (rounds sheet set) (member_at w i) (member_at w j)

-- the classes of n members and their births
pub record BirthsHeld (w : List ℕ) (n : ℕ) : Type 0 where
  pub count : ℕ
  pub few : count ≤ member_room
  pub classes : (i : ℕ) → i < n → class_in w i < count
  pub births : Births (from_in_lem w) (born_in w) count

-- some set stands in the slice so, with births
pub record Followable (w : List ℕ) (n last : ℕ) : Type 0 where
  pub sheet : Sheet
  pub set : List Configuration
  pub m : ℕ
  pub held : TrailHeld sheet set w n m last
  pub births : BirthsHeld w n

-- two moves of one member
pub record MovesOfOne (w : List ℕ) (n x y : ℕ) : Type 0 where
  pub place : ℕ
  pub inside : place < n
  pub x_at : (j : ℕ) × (j < move_total w place) × (x ≡ get_or w (moves_at + first_move w place + j) 0)
  pub y_at : (j : ℕ) × (j < move_total w place) × (y ≡ get_or w (moves_at + first_move w place + j) 0)

-- the move at place j of those from `first` on, which are a member's
pub record MoveOfOne (w : List ℕ) (n first j : ℕ) : Type 0 where
  pub place : ℕ
  pub inside : place < n
  pub first_is : first_move w place ≡ first
  pub within : j < move_total w place

-- two places of members whose first round apart can be looked up
pub record PairFits (w : List ℕ) (last i j : ℕ) : Type 0 where
  pub n : ℕ
  pub follows : Followable w n last
  pub left : i < n
  pub right : j < n

-- a member of a set that can be followed: no more rounds than members
pub rounds_few : {w : List ℕ} {n last : ℕ} → Followable w n last → 0 < n → last ≤ n
rounds_few {w} {n} {last} F h =
    let T = F.held in
    let c : length F.set ≡ n = held_count_lem F.sheet F.set w n F.m T.held in
    omega (arith, (result_is F.sheet F.set T.wf T.closed (omega (arith, c))).few, T.rounds_are, c)

-- ---- other births that are the same below `count`
module _ (from born from2 born2 : ℕ → ℕ) (count : ℕ) (B : Births from born count)
    (same_from : (c : ℕ) → c < count → from2 c ≡ from c) (same_born : (c : ℕ) → c < count → born2 c ≡ born c) where
  pub apart_agree : (k r a b : ℕ) → a < count → b < count → apart_from_lem from2 born2 k r a b ≡ apart_from_lem from born k r a b
  unfolding apart_from_lem
  apart_agree zero r a b la lb = refl
  apart_agree (suc k) r a b la lb = go (apart_agree k) (tested (eqb a b)) (tested (eqb (born (max a b)) 0))
    where
      go : ((r a b : ℕ) → a < count → b < count → apart_from_lem from2 born2 k r a b ≡ apart_from_lem from born k r a b)
          → Tested (eqb a b) → Tested (eqb (born (max a b)) 0) → apart_from_lem from2 born2 (suc k) r a b ≡ apart_from_lem from born (suc k) r a b
      go ih (passes y) t =
          let e : a ≡ b = eqb-true a b y in
          apart_same from2 born2 k r a b e ∙ sym (apart_same from born k r a b e)
      go ih (fails y) (passes z) =
          let d : a ≡ b → ⊥ = eqb-false a b y in
          let h : max a b < count = omega arith in
          let e : born (max a b) ≡ 0 = eqb-true (born (max a b)) 0 z in
          apart_founders from2 born2 k r a b d (same_born (max a b) h ∙ e) ∙ sym (apart_founders from born k r a b d e)
      go ih (fails y) (fails z) =
          let d : a ≡ b → ⊥ = eqb-false a b y in
          let h : max a b < count = omega arith in
          let e : born (max a b) ≡ 0 → ⊥ = eqb-false (born (max a b)) 0 z in
          let f : from (max a b) < max a b = B.from_lower (max a b) h (omega (arith, e)) in
          apart_up from2 born2 k r a b d (λ q. e (sym (same_born (max a b) h) ∙ q))
          ∙ ap₂ (λ (s t : ℕ). apart_from_lem from2 born2 k s (min a b) t) (same_born (max a b) h) (same_from (max a b) h)
          ∙ ih (born (max a b)) (min a b) (from (max a b)) (omega arith) (omega arith)
          ∙ sym (apart_up from born k r a b d e)

-- ---- steps stored behind all this leave it as it is
module _ {n : ℕ} {v w : List ℕ} (few : n ≤ member_room) (B : BirthsHeld v n) (S : SameOutside steps_at steps_end v w) where
  birth_same : (c : ℕ) → c < B.count → get_or w (births_at + c) 0 ≡ get_or v (births_at + c) 0
  birth_same c l = S.at (births_at + c) (inr (omega (arith, B.few)))

  class_same : (i : ℕ) → i < n → class_in w i ≡ class_in v i
  class_same i l = S.at (classes_at + i) (inr (omega arith))

  from_same : (c : ℕ) → c < B.count → from_in_lem w c ≡ from_in_lem v c
  from_same c l = ap (λ (x : ℕ). x / 65536) (birth_same c l)

  born_same : (c : ℕ) → c < B.count → born_in w c ≡ born_in v c
  born_same c l = ap (λ (x : ℕ). x % 65536) (birth_same c l)

  pub births_held_same : BirthsHeld w n
  births_held_same = record {
    count = B.count;
    few = B.few;
    classes = λ i l. omega (arith, class_same i l, B.classes i l);
    births = births_agree (from_in_lem v) (born_in v) (from_in_lem w) (born_in w) B.count B.births from_same born_same;
  }

  pub apart_at_same : (last i j : ℕ) → i < n → j < n → apart_at w last i j ≡ apart_at v last i j
  apart_at_same last i j li lj =
      ap₂ (λ (a b : ℕ). apart (from_in_lem w) (born_in w) last a b) (class_same i li) (class_same j lj)
      ∙ apart_agree (from_in_lem v) (born_in v) (from_in_lem w) (born_in w) B.count B.births from_same born_same
      (suc (class_in v i + class_in v j)) last (class_in v i) (class_in v j) (B.classes i li) (B.classes j lj)

  set_same : SameSet v w
  set_same = same_set_low (omega arith) S

  module _ (sheet : Sheet) (set : List Configuration) (m last : ℕ) (T : TrailHeld sheet set v n m last) where
    pub member_same : (i : ℕ) → i < n → member_at w i ≡ member_at v i
    member_same = held_member_same sheet set v w n m T.held set_same

    pub trail_held_same : TrailHeld sheet set w n m last
    trail_held_same = record {
      held = held_same sheet set v w n m T.held set_same;
      wf = T.wf;
      closed = T.closed;
      ascends = T.ascends;
      rounds_are = T.rounds_are;
      first_apart = λ i j li lj.
          apart_at_same last i j li lj ∙ T.first_apart i j li lj
          ∙ sym (ap₂ (λ (p q : Configuration). apart_in set (rounds sheet set) p q) (member_same i li) (member_same j lj));
    }

-- what could be followed still can
pub followable_same : {n last : ℕ} {v w : List ℕ} → Followable v n last → SameOutside steps_at steps_end v w → Followable w n last
followable_same {n} {last} {v} {w} F S = record {
  sheet = F.sheet;
  set = F.set;
  m = F.m;
  held = trail_held_same F.held.held.few.0 F.births S F.sheet F.set F.m last F.held;
  births = births_held_same F.held.held.few.0 F.births S;
}
