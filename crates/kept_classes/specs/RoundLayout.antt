-- The rounds beside a set that stands in the work slice: the places of classes, births, lines and kept dominating moves; what
-- is written there leaves the set as it is; and what classes and dominating moves are, by places.
use Rattle.std.specs.Prelude.{◌≡◌, refl, ◌⊎◌, Bool, true, false, ◌&&◌, ℕ, ◌+◌, ◌*◌, ◌-◌, ◌/◌, ◌%◌, ◌≤◌, ◌<◌, length, get_or, set, eqb, ltb}
use Rattle.std.proofs.Common.{sym, ap, ap₂, ◌∙◌, subst, inl, inr, arith, length-set, get_or-set_other, ltb-true, ltb-false}
use mathlib.Core.List.{List, map, Memᴰ}
use Rattle.std.proofs.lemmas.List.{length-map}
use Rattle.std.proofs.Math.ListN.{get_or-eq_default}
use Rattle.work_layout.specs.TestLaws.{and_right, Tested, tested, passes, fails}
use Rattle.comparison_laws.specs.Members.{map_mem}
use Rattle.comparison_laws.specs.ListPlaces.{get_d_image, map_alike}
use Rattle.comparison_laws.specs.Lists.{Ascends}
use Rattle.work_layout.specs.Tabulate.{tabulate, tabulate_same, tabulate_length, tabulate_at}
use Rattle.work_layout.specs.TabulateLaws.{mem_tabulate, ascends_at}
use Rattle.work_layout.specs.Frames.{SameOutside}
use Rattle.work_layout.specs.NumberLists.{numbers_in}
use Rattle.work_layout.specs.NumberLaws.{numbers_same, numbers_tabulate, numbers_length, numbers_at_lem}
use Rattle.comparison_laws.specs.FactSets.{Within}
use Rattle.work_layout.specs.Stores.{strictly_below}
use Rattle.comparison_laws.specs.StoreLaws.{below_within}
use Rattle.comparison_laws.specs.Sheet.{Configuration, Sheet}
use Rattle.comparison_laws.specs.WellFormed.{WellFormed}
use Rattle.comparison_laws.specs.Orders.{Move, configuration_before}
use Rattle.comparison_laws.specs.OrderLaws.{configuration_order}
use Rattle.comparison_laws.specs.Moves.{moves, Moves, add}
use Rattle.work_layout.specs.Packing.{unpacked}
use Rattle.work_layout.specs.SetLayout.{member_at, first_move, move_total, move_numbers_at, move_from, moves_held_at, SetHeld}
use Rattle.comparison_laws.specs.Classes.{place_of, class_of, share}
use Rattle.comparison_laws.specs.SheetTransitions.{transitions}
use Rattle.comparison_laws.specs.SheetMoves.{conclusions_fit}
use Rattle.comparison_laws.specs.ClassLaws.{place_of_lt, place_of_at}
use Rattle.comparison_laws.specs.RoundLaws.{ClosedList, Sharing}
use Rattle.comparison_laws.specs.TrailLaws.{share_sym}
use Rattle.comparison_laws.specs.EarlierRounds.{round_earlier}
use Rattle.kept_classes.specs.AddedStores.{added_store, added_is}
use Rattle.kept_classes.specs.DominatingMoves.{dominates}
use Rattle.work_layout.specs.WorkLayout.{table_ids, spans_at, moves_at, members_at, line_totals_at, move_room}
use Rattle.work_layout.specs.ClassLayout.{class_in, classes_in}

-- ---- a set is left as it is
-- w is as long as v, and has v's numbers at the places of a set: those of moves, with their spans, and those of members
pub record SameSet (v w : List ℕ) : Type 0 where
  pub long : length w ≡ length v
  pub at_moves : (i : ℕ) → spans_at ≤ i → i < moves_at + move_room → get_or w i 0 ≡ get_or v i 0
  pub at_members : (i : ℕ) → members_at ≤ i → i < members_at + table_ids → get_or w i 0 ≡ get_or v i 0

pub same_set_refl : (v : List ℕ) → SameSet v v
same_set_refl v = record { long = refl; at_moves = λ i h k. refl; at_members = λ i h k. refl }

pub same_set_trans : {u v w : List ℕ} → SameSet u v → SameSet v w → SameSet u w
same_set_trans p q = record {
  long = q.long ∙ p.long;
  at_moves = λ i h k. q.at_moves i h k ∙ p.at_moves i h k;
  at_members = λ i h k. q.at_members i h k ∙ p.at_members i h k;
}

-- they differ only at places of kept dominating moves
pub same_set_low : {a b : ℕ} {v w : List ℕ} → b ≤ spans_at → SameOutside a b v w → SameSet v w
same_set_low h s = record {
  long = s.long;
  at_moves = λ i k l. s.at i (inr (omega arith));
  at_members = λ i k l. s.at i (inr (omega arith));
}

-- they differ only at places of lines, classes and births
pub same_set_high : {a b : ℕ} {v w : List ℕ} → line_totals_at ≤ a → SameOutside a b v w → SameSet v w
same_set_high h s = record {
  long = s.long;
  at_moves = λ i k l. s.at i (inl (omega arith));
  at_members = λ i k l. s.at i (inl (omega arith));
}

-- one number stored
pub same_set_store : (v : List ℕ) (i x : ℕ) → (i < spans_at) ⊎ (line_totals_at ≤ i) → SameSet v (set v i x)
same_set_store v i x o = record {
  long = length-set v i x;
  at_moves = λ j h k. get_or-set_other v i j x 0 (λ e. moves_apart o j h k e);
  at_members = λ j h k. get_or-set_other v i j x 0 (λ e. members_apart o j h k e);
}
  where
    moves_apart : (i < spans_at) ⊎ (line_totals_at ≤ i) → (j : ℕ) → spans_at ≤ j → j < moves_at + move_room → j ≡ i → ⊥
    moves_apart (inl l) j h k e = omega arith
    moves_apart (inr l) j h k e = omega arith

    members_apart : (i < spans_at) ⊎ (line_totals_at ≤ i) → (j : ℕ) → members_at ≤ j → j < members_at + table_ids → j ≡ i → ⊥
    members_apart (inl l) j h k e = omega arith
    members_apart (inr l) j h k e = omega arith

module _ (sheet : Sheet) (set : List Configuration) (v w : List ℕ) (n m : ℕ) (H : SetHeld sheet set v n m) (S : SameSet v w) where
  -- the number at a place of a member
  key_same : (i k : ℕ) → i < n → k < 3 → get_or w (members_at + 3 * i + k) 0 ≡ get_or v (members_at + 3 * i + k) 0
  key_same i k l h = S.at_members (members_at + 3 * i + k) (omega arith) (omega (arith, H.few.0))

  first_same : (i : ℕ) → i < n → get_or w (members_at + 3 * i) 0 ≡ get_or v (members_at + 3 * i) 0
  first_same i l = S.at_members (members_at + 3 * i) (omega arith) (omega (arith, H.few.0))

  pub held_member_same : (i : ℕ) → i < n → member_at w i ≡ member_at v i
  held_member_same i l =
      ap (λ (a : ℕ). unpacked a (get_or w (members_at + 3 * i + 1) 0) (get_or w (members_at + 3 * i + 2) 0)) (first_same i l)
      ∙ ap (λ (b : ℕ). unpacked (get_or v (members_at + 3 * i) 0) b (get_or w (members_at + 3 * i + 2) 0)) (key_same i 1 l (omega arith))
      ∙ ap (λ (c : ℕ). unpacked (get_or v (members_at + 3 * i) 0) (get_or v (members_at + 3 * i + 1) 0) c) (key_same i 2 l (omega arith))

  pub held_span_same : (i : ℕ) → i < n → get_or w (spans_at + i) 0 ≡ get_or v (spans_at + i) 0
  held_span_same i l = S.at_moves (spans_at + i) (omega arith) (omega (arith, H.few.0))

  pub held_first_same : (i : ℕ) → i < n → first_move w i ≡ first_move v i
  held_first_same i l = ap (λ (x : ℕ). x / 65536) (held_span_same i l)

  pub held_total_same : (i : ℕ) → i < n → move_total w i ≡ move_total v i
  held_total_same i l = ap (λ (x : ℕ). x % 65536) (held_span_same i l)

  pub held_numbers_same : (i : ℕ) → i < n → move_numbers_at w i ≡ move_numbers_at v i
  held_numbers_same i l =
      ap₂ (λ (f t : ℕ). numbers_in w (moves_at + f) (moves_at + f + t)) (held_first_same i l) (held_total_same i l)
      ∙ numbers_same v w (moves_at + first_move v i) (moves_at + first_move v i + move_total v i) S.long
      (λ j h k. S.at_moves j (omega arith) (omega (arith, H.spans i l, H.few.1)))

  pub held_moves_same : (i : ℕ) → i < n → moves_held_at w i ≡ moves_held_at v i
  held_moves_same i l =
      ap (map (move_from w)) (held_numbers_same i l)
      ∙ map_alike (move_from w) (move_from v) (move_numbers_at v i)
      (λ y k. ap (λ (t : Configuration). record { label = y / 65536; target = t }) (held_member_same (y % 65536) (H.targets i y l k)))

  -- the set stands in w as in v
  pub held_same : SetHeld sheet set w n m
  held_same = record {
    long = omega (arith, S.long, H.long);
    few = H.few;
    members = tabulate_same (member_at w) (member_at v) n held_member_same ∙ H.members;
    packed = λ i l. rw (first_same i l, key_same i 1 l (omega arith), key_same i 2 l (omega arith)) (H.packed i l);
    spans = λ i l. omega (arith, held_first_same i l, held_total_same i l, H.spans i l);
    apart = λ i j l k d.
        rw (held_first_same i l, held_total_same i l, held_first_same j k, held_total_same j k) (H.apart i j l k d);
    targets = λ i y l k. H.targets i y l (subst (λ (ys : List ℕ). Memᴰ y ys) (held_numbers_same i l) k);
    moves_are = λ i l. held_moves_same i l ∙ H.moves_are i l ∙ ap (moves sheet) (sym (held_member_same i l));
  }

-- ---- members, classes and moves by their places
module _ (sheet : Sheet) (set : List Configuration) (w : List ℕ) (n m : ℕ) (H : SetHeld sheet set w n m) where
  pub held_count_lem : length set ≡ n
  held_count_lem = ap length (sym H.members) ∙ tabulate_length (member_at w) n

  pub held_in : (i : ℕ) → i < n → Memᴰ (member_at w i) set
  held_in i l = subst (λ (s : List Configuration). Memᴰ (member_at w i) s) H.members (mem_tabulate (member_at w) n i l)

  pub held_at : (i : ℕ) (d : Configuration) → i < n → get_or set i d ≡ member_at w i
  held_at i d l = ap (λ (s : List Configuration). get_or s i d) (sym H.members) ∙ tabulate_at (member_at w) n i d l

  -- each member stands at its place
  pub held_found : (p : Configuration) → Memᴰ p set → (place_of set p < n) × (member_at w (place_of set p) ≡ p)
  held_found p k =
      let l : place_of set p < n = omega (arith, place_of_lt set p k, held_count_lem) in
      (l, sym (held_at (place_of set p) p l) ∙ place_of_at set p k)

  -- the numbers of its moves and the moves, by their places among them
  pub number_count : (i : ℕ) → i < n → length (move_numbers_at w i) ≡ move_total w i
  number_count i l =
      let f : ℕ = moves_at + first_move w i in
      let e : f + move_total w i - f ≡ move_total w i = omega arith in
      numbers_length w f (f + move_total w i) (omega arith) (omega (arith, H.spans i l, H.few.1, H.long)) ∙ e

  pub moves_count : (i : ℕ) → i < n → length (moves sheet (member_at w i)) ≡ move_total w i
  moves_count i l = ap length (sym (H.moves_are i l)) ∙ length-map (move_numbers_at w i) (move_from w) ∙ number_count i l

  pub number_in : (i j : ℕ) → i < n → j < move_total w i → Memᴰ (get_or w (moves_at + first_move w i + j) 0) (move_numbers_at w i)
  number_in i j l h =
      numbers_at_lem w (moves_at + first_move w i) (moves_at + first_move w i + move_total w i) (omega arith)
      (omega (arith, H.spans i l, H.few.1, H.long)) (moves_at + first_move w i + j) (omega arith) (omega arith)

  pub move_at : (i j : ℕ) (d : Move) → i < n → j < move_total w i
      → get_or (moves sheet (member_at w i)) j d ≡ move_from w (get_or w (moves_at + first_move w i + j) 0)
  move_at i j d l h =
      let f : ℕ = moves_at + first_move w i in
      let t : move_numbers_at w i ≡ tabulate (λ k. get_or w (f + k) 0) (f + move_total w i - f) =
      numbers_tabulate w f (f + move_total w i) (omega arith) (omega (arith, H.spans i l, H.few.1, H.long)) in
      ap (λ (ms : List Move). get_or ms j d) (sym (H.moves_are i l))
      ∙ get_d_image (move_from w) (move_numbers_at w i) j 0 d (omega (arith, number_count i l))
      ∙ ap (move_from w)
      (ap (λ (ys : List ℕ). get_or ys j 0) t ∙ tabulate_at (λ k. get_or w (f + k) 0) (f + move_total w i - f) j 0 (omega arith))

  pub move_in : (i y : ℕ) → i < n → Memᴰ y (move_numbers_at w i) → Memᴰ (move_from w y) (moves sheet (member_at w i))
  move_in i y l k = subst (λ (ms : List Move). Memᴰ (move_from w y) ms) (H.moves_are i l) (map_mem (move_from w) k)

  module _ (asc : Ascends configuration_before set) where
    pub held_place : (i : ℕ) → i < n → place_of set (member_at w i) ≡ i
    held_place i l =
        let f = held_found (member_at w i) (held_in i l) in
        let j : ℕ = place_of set (member_at w i) in
        go j f.0 f.1 (tested (ltb j i)) (tested (ltb i j))
      where
        apart : (j k : ℕ) → j < k → k < n → member_at w j ≡ member_at w k → ⊥
        apart j k h b e =
            configuration_order.irreflexive (member_at w k)
            (subst (λ (p : Configuration). configuration_before p (member_at w k) ≡ true) e
            (ascends_at configuration_order (member_at w) n (subst (Ascends configuration_before) (sym H.members) asc) j k h b))

        go : (j : ℕ) → j < n → member_at w j ≡ member_at w i → Tested (ltb j i) → Tested (ltb i j) → j ≡ i
        go j b e (passes y) t = absurd (apart j i (ltb-true j i y) l e)
        go j b e (fails y) (passes z) = absurd (apart i j (ltb-true i j z) b (sym e))
        go j b e (fails y) (fails z) = omega (arith, ltb-false j i y, ltb-false i j z)

    -- the class of the member at place i stands at place i
    pub class_held_lem : (i : ℕ) → i < n → class_of set (classes_in w n) (member_at w i) ≡ class_in w i
    class_held_lem i l = ap (λ (k : ℕ). get_or (classes_in w n) k 0) (held_place i l) ∙ tabulate_at (class_in w) n i 0 l

    -- the class of a move's target stands at the place of the target
    pub target_class : (i y : ℕ) → i < n → Memᴰ y (move_numbers_at w i)
        → class_of set (classes_in w n) (move_from w y).target ≡ class_in w (y % 65536)
    target_class i y l k = class_held_lem (y % 65536) (H.targets i y l k)

    pub share_held : (i j : ℕ) → i < n → j < n → share set (classes_in w n) (member_at w i) (member_at w j) ≡ eqb (class_in w i) (class_in w j)
    share_held i j l h = ap₂ (λ (a b : ℕ). eqb a b) (class_held_lem i l) (class_held_lem j h)

  -- classes that are each less than a bound
  pub classes_less : (b : ℕ) → 0 < b → ((i : ℕ) → i < n → class_in w i < b) → (p : Configuration) → class_of set (classes_in w n) p < b
  classes_less b z f p = go (tested (ltb (place_of set p) n))
    where
      go : Tested (ltb (place_of set p) n) → class_of set (classes_in w n) p < b
      go (passes y) =
          let l : place_of set p < n = ltb-true (place_of set p) n y in
          omega (arith, tabulate_at (class_in w) n (place_of set p) 0 l, f (place_of set p) l)
      go (fails y) =
          omega (
            arith,
            get_or-eq_default (classes_in w n) 0 {n = place_of set p}
                (omega (arith, tabulate_length (class_in w) n, ltb-false (place_of set p) n y)),
            z,
          )

-- ---- dominating moves by places
-- the target of move x with the store of move y's
abbrev pub lifted_target : List ℕ → ℕ → ℕ → Configuration
lifted_target w y x = record { store = (member_at w (y % 65536)).store; threads = (member_at w (x % 65536)).threads }

-- a move dominates only moves with a label above its own
pub dominates_label : (sheet : Sheet) (set : List Configuration) (numbers w : List ℕ) (y x : ℕ)
    → strictly_below (x / 65536) (y / 65536) ≡ false
    → dominates sheet set numbers (move_from w y) (move_from w x) ≡ false
dominates_label sheet set numbers w y x h =
    ap (λ (b : Bool). b && share set numbers (member_at w (y % 65536)) (add sheet (y / 65536) (member_at w (x % 65536)))) h

-- Two moves of the member at place i, the label of x strictly below that of y.
module _ (sheet : Sheet) (set : List Configuration) (w : List ℕ) (n m : ℕ) (H : SetHeld sheet set w n m)
    (wf : WellFormed sheet) (closed : ClosedList sheet set) (i : ℕ) (l : i < n)
    (y x : ℕ) (iy : Memᴰ y (move_numbers_at w i)) (ix : Memᴰ x (move_numbers_at w i))
    (below : strictly_below (x / 65536) (y / 65536) ≡ true) where
  mine : Moves sheet (member_at w i) (y / 65536) (member_at w (y % 65536))
  mine = move_in sheet set w n m H i y l iy

  other : Moves sheet (member_at w i) (x / 65536) (member_at w (x % 65536))
  other = move_in sheet set w n m H i x l ix

  added_in : Memᴰ (add sheet (y / 65536) (member_at w (x % 65536))) set
  added_in = closed.addeds (member_at w i) (move_from w x) (move_from w y) (held_in sheet set w n m H i l) other mine below

  -- where the store of x's target is not within that of y's, x does not dominate y, in the classes of any round
  pub dominates_outside : (numbers : List ℕ) (r : ℕ) → Sharing sheet wf set closed numbers r
      → (Within (member_at w (x % 65536)).store (member_at w (y % 65536)).store → ⊥)
      → dominates sheet set numbers (move_from w y) (move_from w x) ≡ false
  dominates_outside numbers r sh f = go (tested (dominates sheet set numbers (move_from w y) (move_from w x)))
    where
      go : Tested (dominates sheet set numbers (move_from w y) (move_from w x))
          → dominates sheet set numbers (move_from w y) (move_from w x) ≡ false
      go (fails e) = e
      go (passes e) =
          let a : Configuration = add sheet (y / 65536) (member_at w (x % 65536)) in
          let s : (member_at w (y % 65536)).store ≡ a.store =
          round_earlier (transitions sheet) r 0 (member_at w (y % 65536)) a (omega arith)
          (sh.to_round (member_at w (y % 65536)) a (closed.targets (member_at w i) (move_from w y) (held_in sheet set w n m H i l) mine) added_in
          (and_right (strictly_below (x / 65536) (y / 65536)) (share set numbers (member_at w (y % 65536)) a) e)) in
          absurd (f ((added_store sheet (conclusions_fit sheet wf) (member_at w i) (x / 65536) (y / 65536)
          (member_at w (x % 65536)) (member_at w (y % 65536)) other mine (below_within (x / 65536) (y / 65536) below)).1 (sym s)))

  module _ (inside : Within (member_at w (x % 65536)).store (member_at w (y % 65536)).store) where
    added_lifted : add sheet (y / 65536) (member_at w (x % 65536)) ≡ lifted_target w y x
    added_lifted =
        added_is sheet (conclusions_fit sheet wf) (member_at w i) (x / 65536) (y / 65536) (member_at w (x % 65536)) (member_at w (y % 65536))
        other mine (below_within (x / 65536) (y / 65536) below) inside

    -- where it is within, the set has x's target with the store of y's
    pub lifted_in : Memᴰ (lifted_target w y x) set
    lifted_in = subst (λ (p : Configuration). Memᴰ p set) added_lifted added_in

    pub lifted_place_lem : (q : ℕ) × (q < n) × (member_at w q ≡ lifted_target w y x)
    lifted_place_lem = let f = held_found sheet set w n m H (lifted_target w y x) lifted_in in (place_of set (lifted_target w y x), f.0, f.1)

    -- and x dominates y exactly when the member there shares a class with y's target
    pub dominates_held : Ascends configuration_before set → (q : ℕ) → q < n → member_at w q ≡ lifted_target w y x
        → dominates sheet set (classes_in w n) (move_from w y) (move_from w x) ≡ eqb (class_in w q) (class_in w (y % 65536))
    dominates_held asc q h e =
        ap (λ (b : Bool). b && share set (classes_in w n) (member_at w (y % 65536)) (add sheet (y / 65536) (member_at w (x % 65536)))) below
        ∙ ap (share set (classes_in w n) (member_at w (y % 65536))) (added_lifted ∙ sym e)
        ∙ share_sym set (classes_in w n) (member_at w (y % 65536)) (member_at w q)
        ∙ share_held sheet set w n m H asc q (y % 65536) h (H.targets i y l iy)
