-- The kept dominating moves: for each move one number, the place of a move of the same member and the place of the member of the
-- set that shows that this one dominates it.
use Rattle.std.specs.Prelude.{◌≡◌, refl, Bool, true, false, ◌&&◌, ℕ, ◌+◌, ◌/◌, ◌%◌, ◌≤◌, ◌<◌, length, get_or, eqb}
use Rattle.std.proofs.Common.{sym, ap, ap₂, ◌∙◌, subst, arith}
use mathlib.Core.List.{List, [], Memᴰ}
use Rattle.packing.specs.TestLaws.{true_false, and_left, and_right, Tested, tested, passes, fails}
use Rattle.packing.specs.Lists.{Ascends}
use Rattle.packing.specs.ListPlaces.{get_d_in}
use Rattle.packing.specs.FactSets.{Within}
use Rattle.work_layout.specs.Stores.{strictly_below, includes}
use Rattle.kept_classes.specs.StoreLaws.{includes_within, within_includes}
use Rattle.packing.specs.Sheet.{Configuration, Sheet}
use Rattle.packing.specs.WellFormed.{WellFormed}
use Rattle.packing.specs.Orders.{Move, configuration_before}
use Rattle.packing.specs.Moves.{moves}
use Rattle.work_layout.specs.SetLayout.{member_at, first_move, move_total, move_numbers_at, move_from, SetHeld}
use Rattle.kept_classes.specs.RoundLaws.{ClosedList, Sharing}
use Rattle.kept_classes.specs.DominatingMoves.{dominates, Passed, passed_none, passed_later}
use Rattle.kept_classes.specs.MemberLines.{packed_line, line_of}
use Rattle.kept_classes.specs.RoundLayout.{SameSet, held_member_same, held_first_same, held_total_same, held_in, held_at, held_count_lem, number_in, moves_count, move_at, target_class, lifted_target, dominates_label, dominates_outside, lifted_in, dominates_held}
use Rattle.dominators.specs.FoundMembers.{LiftedAt, lifted_there, held_ordered}
use Rattle.work_layout.specs.WorkLayout.{moves_at, dominators_at}
use Rattle.work_layout.specs.ClassLayout.{class_in, classes_in}

-- what stands for no move
abbrev pub no_move_lem : Move
no_move_lem = record { label = 0; target = record { store = 0; threads = [] } }

-- the move at place j of those of p
abbrev pub move_of : Sheet → Configuration → ℕ → Move
move_of sheet p j = get_or (moves sheet p) j no_move_lem

-- the member at place q of the set
abbrev pub member_of_lem : List Configuration → ℕ → Configuration
member_of_lem set q = get_or set q no_move_lem.target

-- The set has at place q the target of k with the store of m's target; k's label is strictly below m's, and the store of its
-- target is within that of m's. So k dominates m exactly when the member at q shares a class with m's target.
pub record Shows (set : List Configuration) (m k : Move) (q : ℕ) : Type 0 where
  pub inside : q < length set
  pub place : member_of_lem set q ≡ record { store = m.target.store; threads = k.target.threads }
  pub below : strictly_below k.label m.label ≡ true
  pub stores : Within k.target.store m.target.store

-- What is kept for the move at place j of p: the moves before the kept one do not dominate it; where a member is kept with it,
-- that shows whether the kept one does.
pub record MoveKept (sheet : Sheet) (set : List Configuration) (numbers : List ℕ) (p : Configuration) (j kept : ℕ) : Type 0 where
  pub passed : Passed sheet set numbers (moves sheet p) (move_of sheet p j) (kept / 65536)
  pub up_to : kept / 65536 ≤ j
  pub shown : (kept % 65536 ≡ 65535 → ⊥)
      → (kept / 65536 < j) × Shows set (move_of sheet p j) (move_of sheet p (kept / 65536)) (kept % 65536)

-- that of every move of the n members
pub record DominatorsKept (sheet : Sheet) (set : List Configuration) (w : List ℕ) (n : ℕ) (numbers : List ℕ) : Type 0 where
  pub at : (i j : ℕ) → i < n → j < move_total w i
      → MoveKept sheet set numbers (member_at w i) j (get_or w (dominators_at + first_move w i + j) 0)

-- A closed set stands in the slice, with the classes of round r.
pub record RoundHeld (sheet : Sheet) (set : List Configuration) (numbers w : List ℕ) (n m r : ℕ) : Type 0 where
  pub held : SetHeld sheet set w n m
  pub wf : WellFormed sheet
  pub closed : ClosedList sheet set
  pub ascends : Ascends configuration_before set
  pub classes_are : classes_in w n ≡ numbers
  pub sharing : Sharing sheet wf set closed numbers r

-- and p is the member at place i of it, whose moves have the places from `first` on
pub record MemberHeld (sheet : Sheet) (set : List Configuration) (numbers : List ℕ) (p : Configuration)
    (w : List ℕ) (n m r i first total : ℕ) : Type 0 where
  pub round : RoundHeld sheet set numbers w n m r
  pub inside : i < n
  pub member_is : member_at w i ≡ p
  pub first_is : first_move w i ≡ first
  pub total_is : move_total w i ≡ total

-- ---- from round to round
-- nothing is known yet
pub kept_none : (sheet : Sheet) (set : List Configuration) (numbers : List ℕ) (p : Configuration) (j : ℕ)
    → MoveKept sheet set numbers p j 65535
kept_none sheet set numbers p j = record {
  passed = passed_none sheet set numbers (moves sheet p) (move_of sheet p j);
  up_to = omega arith;
  shown = λ d. absurd (d refl);
}

pub dominators_none : (sheet : Sheet) (set : List Configuration) (w : List ℕ) (n m : ℕ) (numbers : List ℕ) → SetHeld sheet set w n m
    → ((k : ℕ) → k < m → get_or w (dominators_at + k) 0 ≡ 65535) → DominatorsKept sheet set w n numbers
dominators_none sheet set w n m numbers H f = record { at = go }
  where
    go : (i j : ℕ) → i < n → j < move_total w i → MoveKept sheet set numbers (member_at w i) j (get_or w (dominators_at + first_move w i + j) 0)
    go i j l h =
        let e : dominators_at + first_move w i + j ≡ dominators_at + (first_move w i + j) = omega arith in
        subst (MoveKept sheet set numbers (member_at w i) j)
        (sym (ap (λ (k : ℕ). get_or w k 0) e ∙ f (first_move w i + j) (omega (arith, H.spans i l))))
        (kept_none sheet set numbers (member_at w i) j)

-- what is kept in round n holds in every later one
pub kept_later : (sheet : Sheet) (wf : WellFormed sheet) (set : List Configuration) (closed : ClosedList sheet set) (n r : ℕ) → n ≤ r
    → (numbers later : List ℕ) → Sharing sheet wf set closed numbers n → Sharing sheet wf set closed later r
    → (p : Configuration) (j kept : ℕ) → Memᴰ p set → j < length (moves sheet p)
    → MoveKept sheet set numbers p j kept → MoveKept sheet set later p j kept
kept_later sheet wf set closed n r nr numbers later sh sl p j kept mp h K = record {
  passed = passed_later sheet set wf closed n r nr numbers later sh sl p (move_of sheet p j) (kept / 65536) mp
      (get_d_in (moves sheet p) j no_move_lem h) K.passed;
  up_to = K.up_to;
  shown = K.shown;
}

pub dominators_later : (sheet : Sheet) (set : List Configuration) (w : List ℕ) (n m : ℕ) → SetHeld sheet set w n m
    → (wf : WellFormed sheet) (closed : ClosedList sheet set) (q r : ℕ) → q ≤ r
    → (numbers later : List ℕ) → Sharing sheet wf set closed numbers q → Sharing sheet wf set closed later r
    → DominatorsKept sheet set w n numbers → DominatorsKept sheet set w n later
dominators_later sheet set w n m H wf closed q r qr numbers later sh sl D = record {
  at = λ i j l h.
      kept_later sheet wf set closed q r qr numbers later sh sl (member_at w i) j (get_or w (dominators_at + first_move w i + j) 0)
      (held_in sheet set w n m H i l) (omega (arith, moves_count sheet set w n m H i l)) (D.at i j l h);
}

-- where neither the set nor what is kept was stored to, all stays as it is
pub dominators_same : (sheet : Sheet) (set : List Configuration) (v w : List ℕ) (n m : ℕ) (numbers : List ℕ) → SetHeld sheet set v n m
    → SameSet v w → ((k : ℕ) → k < m → get_or w (dominators_at + k) 0 ≡ get_or v (dominators_at + k) 0)
    → DominatorsKept sheet set v n numbers → DominatorsKept sheet set w n numbers
dominators_same sheet set v w n m numbers H S f D = record { at = λ i j l h. go i j l (omega (arith, held_total_same sheet set v w n m H S i l)) }
  where
    go : (i j : ℕ) → i < n → j < move_total v i → MoveKept sheet set numbers (member_at w i) j (get_or w (dominators_at + first_move w i + j) 0)
    go i j l h =
        let e : dominators_at + first_move v i + j ≡ dominators_at + (first_move v i + j) = omega arith in
        let k : get_or w (dominators_at + first_move v i + j) 0 ≡ get_or v (dominators_at + first_move v i + j) 0 =
        ap (λ (a : ℕ). get_or w a 0) e ∙ f (first_move v i + j) (omega (arith, H.spans i l)) ∙ ap (λ (a : ℕ). get_or v a 0) (sym e) in
        subst (λ (p : Configuration). MoveKept sheet set numbers p j (get_or w (dominators_at + first_move w i + j) 0))
        (sym (held_member_same sheet set v w n m H S i l))
        (subst (λ (a : ℕ). MoveKept sheet set numbers (member_at v i) j (get_or w (dominators_at + a + j) 0))
        (sym (held_first_same sheet set v w n m H S i l))
        (subst (MoveKept sheet set numbers (member_at v i) j) (sym k) (D.at i j l h)))

-- ---- one member of the slice
module _ {sheet : Sheet} {set : List Configuration} {numbers : List ℕ} {p : Configuration} {w : List ℕ} {n m r i first total : ℕ}
    (M : MemberHeld sheet set numbers p w n m r i first total) where
  -- the number of its move j
  abbrev y : ℕ → ℕ
  y j = get_or w (moves_at + first + j) 0

  H : SetHeld sheet set w n m
  H = M.round.held

  pub span_count : length (moves sheet p) ≡ total
  span_count =
      ap (λ (q : Configuration). length (moves sheet q)) (sym M.member_is) ∙ moves_count sheet set w n m H i M.inside ∙ M.total_is

  pub span_in : Memᴰ p set
  span_in = subst (λ (q : Configuration). Memᴰ q set) M.member_is (held_in sheet set w n m H i M.inside)

  pub span_number : (j : ℕ) → j < total → Memᴰ (y j) (move_numbers_at w i)
  span_number j h =
      subst (λ (f : ℕ). Memᴰ (get_or w (moves_at + f + j) 0) (move_numbers_at w i)) M.first_is
      (number_in sheet set w n m H i j M.inside (omega (arith, M.total_is)))

  pub span_target : (j : ℕ) → j < total → y j % 65536 < n
  span_target j h = H.targets i (y j) M.inside (span_number j h)

  pub span_move : (j : ℕ) → j < total → move_from w (y j) ≡ move_of sheet p j
  span_move j h =
      sym (ap (λ (q : Configuration). move_of sheet q j) (sym M.member_is)
      ∙ move_at sheet set w n m H i j no_move_lem M.inside (omega (arith, M.total_is))
      ∙ ap (λ (f : ℕ). move_from w (get_or w (moves_at + f + j) 0)) M.first_is)

  span_dominates : (j k : ℕ) → j < total → k < total
      → dominates sheet set (classes_in w n) (move_from w (y j)) (move_from w (y k))
      ≡ dominates sheet set numbers (move_of sheet p j) (move_of sheet p k)
  span_dominates j k hj hk =
      ap (λ (c : List ℕ). dominates sheet set c (move_from w (y j)) (move_from w (y k))) M.round.classes_are
      ∙ ap₂ (λ (a b : Move). dominates sheet set numbers a b) (span_move j hj) (span_move k hk)

  -- whether a move that is shown dominates, by the classes in the slice
  pub shows_dominates : (j k q : ℕ) → j < total → k < total → Shows set (move_of sheet p j) (move_of sheet p k) q
      → dominates sheet set numbers (move_of sheet p j) (move_of sheet p k) ≡ eqb (class_in w q) (class_in w (y j % 65536))
  shows_dominates j k q hj hk s =
      let l : q < n = omega (arith, s.inside, held_count_lem sheet set w n m H) in
      sym (span_dominates j k hj hk)
      ∙ dominates_held sheet set w n m H M.round.wf M.round.closed i M.inside (y j) (y k) (span_number j hj) (span_number k hk)
      (subst (λ (a : Move). strictly_below a.label (move_from w (y j)).label ≡ true) (sym (span_move k hk))
      (subst (λ (b : Move). strictly_below (move_of sheet p k).label b.label ≡ true) (sym (span_move j hj)) s.below))
      (subst (λ (a : Move). Within a.target.store (move_from w (y j)).target.store) (sym (span_move k hk))
      (subst (λ (b : Move). Within (move_of sheet p k).target.store b.target.store) (sym (span_move j hj)) s.stores))
      M.round.ascends q l
      (sym (held_at sheet set w n m H q no_move_lem.target l) ∙ s.place
      ∙ ap₂ (λ (a b : Move). record { store = a.target.store; threads = b.target.threads }) (sym (span_move j hj)) (sym (span_move k hk)))

  -- the line of a move, by the class in the slice
  pub span_line : (j : ℕ) → j < total → packed_line (y j / 65536) (class_in w (y j % 65536)) ≡ line_of sheet set numbers (move_of sheet p j)
  span_line j h =
      ap (packed_line (y j / 65536)) (sym (target_class sheet set w n m H M.round.ascends i (y j) M.inside (span_number j h)))
      ∙ ap (λ (c : List ℕ). line_of sheet set c (move_from w (y j))) M.round.classes_are
      ∙ ap (line_of sheet set numbers) (span_move j h)

  -- a place that was found for the lifted target is the one that shows it
  pub lifted_shows : (j k q : ℕ) → j < total → k < total → LiftedAt w n (y j % 65536) (y k % 65536) q
      → (strictly_below (y k / 65536) (y j / 65536) && includes (member_at w (y j % 65536)).store (member_at w (y k % 65536)).store) ≡ true
      → Shows set (move_of sheet p j) (move_of sheet p k) q
  lifted_shows j k q hj hk f t =
      let b : strictly_below (y k / 65536) (y j / 65536) ≡ true =
      and_left (strictly_below (y k / 65536) (y j / 65536)) (includes (member_at w (y j % 65536)).store (member_at w (y k % 65536)).store) t in
      let s : Within (member_at w (y k % 65536)).store (member_at w (y j % 65536)).store =
      includes_within (member_at w (y j % 65536)).store (member_at w (y k % 65536)).store
      (and_right (strictly_below (y k / 65536) (y j / 65536)) (includes (member_at w (y j % 65536)).store (member_at w (y k % 65536)).store) t) in
      let z = lifted_there f (held_ordered H M.round.ascends) (span_target j hj) (span_target k hk)
      (subst (λ (c : List Configuration). Memᴰ (lifted_target w (y j) (y k)) c) (sym H.members)
      (lifted_in sheet set w n m H M.round.wf M.round.closed i M.inside (y j) (y k) (span_number j hj) (span_number k hk) b s)) in
      record {
        inside = omega (arith, z.0, held_count_lem sheet set w n m H);
        place = held_at sheet set w n m H q no_move_lem.target z.0 ∙ z.1
            ∙ ap₂ (λ (a b : Move). record { store = a.target.store; threads = b.target.threads }) (span_move j hj) (span_move k hk);
        below = subst (λ (a : Move). strictly_below a.label (move_of sheet p j).label ≡ true) (span_move k hk)
            (subst (λ (a : Move). strictly_below (y k / 65536) a.label ≡ true) (span_move j hj) b);
        stores = subst (λ (a : Move). Within a.target.store (move_of sheet p j).target.store) (span_move k hk)
            (subst (λ (a : Move). Within (member_at w (y k % 65536)).store a.target.store) (span_move j hj) s);
      }

  -- a move that does not come below does not dominate
  pub not_below_passed : (j k : ℕ) → j < total → k < total
      → (strictly_below (y k / 65536) (y j / 65536) && includes (member_at w (y j % 65536)).store (member_at w (y k % 65536)).store) ≡ false
      → dominates sheet set numbers (move_of sheet p j) (move_of sheet p k) ≡ false
  not_below_passed j k hj hk t = go (tested (strictly_below (y k / 65536) (y j / 65536)))
    where
      go : Tested (strictly_below (y k / 65536) (y j / 65536)) → dominates sheet set numbers (move_of sheet p j) (move_of sheet p k) ≡ false
      go (fails e) = sym (span_dominates j k hj hk) ∙ dominates_label sheet set (classes_in w n) w (y j) (y k) e
      go (passes e) =
          sym (span_dominates j k hj hk)
          ∙ dominates_outside sheet set w n m H M.round.wf M.round.closed i M.inside (y j) (y k)
          (span_number j hj) (span_number k hk) e
          (classes_in w n) r
          (subst (λ (c : List ℕ). Sharing sheet M.round.wf set M.round.closed c r) (sym M.round.classes_are) M.round.sharing)
          (λ s. true_false (includes (member_at w (y j % 65536)).store (member_at w (y k % 65536)).store) (within_includes s)
          (sym (ap (λ (b : Bool). b && includes (member_at w (y j % 65536)).store (member_at w (y k % 65536)).store) e) ∙ t))
