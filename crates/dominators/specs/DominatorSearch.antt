-- The first move that dominates another one looked for among those of its member, and what is said of the other then.
use Rattle.std.specs.Prelude.{◌≡◌, refl, ◌⊎◌, Option, Some, None, Bool, true, false, not, ◌&&◌, List, ℕ, ◌+◌, ◌*◌, ◌/◌, ◌%◌, ◌≤◌, ◌<◌, length, get_or, set, eqb}
use Rattle.std.proofs.Common.{sym, ap, ◌∙◌, subst, inl, inr, arith, get_or-set_same, get_or-set_other, eqb-true, eq-eqb, ne_eqb}
use Rattle.std.proofs.lemmas.Bool.{eqb-false}
use Rattle.packing.specs.TestLaws.{and_left, and_right, Tested, tested, passes, fails}
use Rattle.packing.specs.Frames.{SameOutside, outside_same, outside_set}
use Rattle.packing.specs.ListPlaces.{get_d_any}
use Rattle.work_layout.specs.Stores.{strictly_below, includes}
use Rattle.packing.specs.Sheet.{Configuration, Sheet}
use Rattle.packing.specs.Moves.{moves}
use Rattle.work_layout.specs.SetLayout.{member_at}
use Rattle.work_layout.specs.Rounds.{redundant}
use Rattle.kept_classes.specs.DominatingMoves.{dominates, Passed, passed_one, passed_own, kept_redundant}
use Rattle.dominators.specs.FoundMembers.{LiftedAt}
use Rattle.dominators.specs.KeptMoves.{no_move_lem, move_of, Shows, MoveKept, MemberHeld, span_count, shows_dominates, lifted_shows, not_below_passed}
use Rattle.dominance_tests.specs.KeptNumbers.{KeptFits}
use Rattle.dominators.specs.SliceShapes.{kept_at, target_at, Stands}
use Rattle.work_layout.specs.WorkLayout.{moves_at, dominators_at, classes_at, member_room, move_room}
use Rattle.work_layout.specs.ClassLayout.{class_in}

-- move x comes below move y: a label strictly below, and a target whose store is inside
abbrev pub comes_below : List ℕ → ℕ → ℕ → Bool
comes_below w x y = strictly_below (x / 65536) (y / 65536) && includes (member_at w (y % 65536)).store (member_at w (x % 65536)).store

-- the member at place d shows that move x dominates move y
pub record DominatedAt (w : List ℕ) (n x y d : ℕ) : Type 0 where
  pub fits : d ≤ n
  pub some : (comes_below w x y ≡ true) × LiftedAt w n (y % 65536) (x % 65536) d × (class_in w d ≡ class_in w (y % 65536))

-- no member shows it
abbrev pub NotDominated : List ℕ → ℕ → ℕ → ℕ → Type 0
NotDominated w n x y =
    (comes_below w x y ≡ false)
    ⊎ ((comes_below w x y ≡ true) × (q : ℕ) × LiftedAt w n (y % 65536) (x % 65536) q × (class_in w q ≡ class_in w (y % 65536) → ⊥))

-- d is the place of the member that shows that move x dominates move y; none where none does
abbrev pub DominatedBy : List ℕ → ℕ → ℕ → ℕ → Option ℕ → Type 0
DominatedBy w n x y (Some d) = DominatedAt w n x y d
DominatedBy w n x y None = NotDominated w n x y

-- what looking for a move that dominates the one at j found
pub record Looked (sheet : Sheet) (set : List Configuration) (numbers : List ℕ) (p : Configuration)
    (w : List ℕ) (first j kept : ℕ) : Type 0 where
  pub good : MoveKept sheet set numbers p j kept
  pub last : kept % 65536 ≡ 65535 → kept / 65536 ≡ j
  pub one_class : (kept % 65536 ≡ 65535 → ⊥) → class_in w (kept % 65536) ≡ class_in w (get_or w (moves_at + first + j) 0 % 65536)

-- that it was looked for from place k on
pub record LookedFrom (w : List ℕ) (n first j k kept : ℕ) : Type 0 where
  pub fits : KeptFits kept
  pub settles : (kept ≡ j * 65536 + 65535) ⊎ ((kept % 65536 ≡ 65535 → ⊥) × (class_in w (kept % 65536) ≡ class_in w (target_at w first j)))
  pub finds : (sheet : Sheet) (set : List Configuration) (numbers : List ℕ) (p : Configuration) (m r i total : ℕ)
      → MemberHeld sheet set numbers p w n m r i first total → j < total → k ≤ j
      → Passed sheet set numbers (moves sheet p) (move_of sheet p j) k → Looked sheet set numbers p w first j kept

-- those from k on, before place i, were passed
pub record Passing (w : List ℕ) (n first j k at : ℕ) : Type 0 where
  pub pass : (sheet : Sheet) (set : List Configuration) (numbers : List ℕ) (p : Configuration) (m r i total : ℕ)
      → MemberHeld sheet set numbers p w n m r i first total → j < total → k ≤ j
      → Passed sheet set numbers (moves sheet p) (move_of sheet p j) k
      → (at ≤ j) × Passed sheet set numbers (moves sheet p) (move_of sheet p j) at

-- the move at place j was judged: b says whether it is irredundant, and v has what is kept for it now
pub record Judged (w : List ℕ) (n first j : ℕ) (v : List ℕ) (b : Bool) : Type 0 where
  pub outside : SameOutside (dominators_at + first + j) (dominators_at + first + j + 1) w v
  pub fits : KeptFits (get_or v (dominators_at + first + j) 0)
  pub stands : Stands v first j
  pub judges : (sheet : Sheet) (set : List Configuration) (numbers : List ℕ) (p : Configuration) (m r i total : ℕ)
      → MemberHeld sheet set numbers p w n m r i first total → j < total
      → MoveKept sheet set numbers p j (get_or w (dominators_at + first + j) 0)
      → MoveKept sheet set numbers p j (get_or v (dominators_at + first + j) 0) × (redundant sheet set numbers p (move_of sheet p j) ≡ not b)

-- ---- one move after the other
module _ (w : List ℕ) (n first j k : ℕ) where
  pub passing_first : Passing w n first j k k
  passing_first = record { pass = λ sheet set numbers p m r i total M h l P. (l, P) }

  -- the one at hand does not dominate
  pub passing_next : (at : ℕ) → at < j → Passing w n first j k at
      → NotDominated w n (get_or w (moves_at + first + at) 0) (get_or w (moves_at + first + j) 0)
      → Passing w n first j k (at + 1)
  passing_next at h P D = record { pass = go }
    where
      go : (sheet : Sheet) (set : List Configuration) (numbers : List ℕ) (p : Configuration) (m r i total : ℕ)
          → MemberHeld sheet set numbers p w n m r i first total → j < total → k ≤ j
          → Passed sheet set numbers (moves sheet p) (move_of sheet p j) k
          → (at + 1 ≤ j) × Passed sheet set numbers (moves sheet p) (move_of sheet p j) (at + 1)
      go sheet set numbers p m r i total M l kj pk =
          let q = P.pass sheet set numbers p m r i total M l kj pk in
          let f : dominates sheet set numbers (move_of sheet p j) (move_of sheet p at) ≡ false = by D in
          let g : dominates sheet set numbers (move_of sheet p j) (get_or (moves sheet p) at (move_of sheet p j)) ≡ false =
          ap (dominates sheet set numbers (move_of sheet p j))
          (get_d_any (moves sheet p) at (move_of sheet p j) no_move_lem (omega (arith, span_count M))) ∙ f in (
            omega arith,
            passed_one sheet set numbers (moves sheet p) (move_of sheet p j) at q.1 g,
          )
        where
          by : (comes_below w (get_or w (moves_at + first + at) 0) (get_or w (moves_at + first + j) 0) ≡ false)
              ⊎ ((comes_below w (get_or w (moves_at + first + at) 0) (get_or w (moves_at + first + j) 0) ≡ true)
              × (q : ℕ) × LiftedAt w n (get_or w (moves_at + first + j) 0 % 65536) (get_or w (moves_at + first + at) 0 % 65536) q
              × (class_in w q ≡ class_in w (get_or w (moves_at + first + j) 0 % 65536) → ⊥))
              → dominates sheet set numbers (move_of sheet p j) (move_of sheet p at) ≡ false
          by (inl t) = not_below_passed M j at l (omega arith) t
          by (inr t) =
              shows_dominates M j at t.1 l (omega arith) (lifted_shows M j at t.1 l (omega arith) t.2 t.0)
              ∙ ne_eqb (class_in w t.1) (class_in w (get_or w (moves_at + first + j) 0 % 65536)) t.3

  -- it does
  pub looked_hit : (at d : ℕ) → n ≤ member_room → at < j → Passing w n first j k at
      → DominatedAt w n (get_or w (moves_at + first + at) 0) (get_or w (moves_at + first + j) 0) d
      → LookedFrom w n first j k (at * 65536 + d)
  looked_hit at d few h P D =
      let l : d ≤ n = D.fits in
      let q : (at * 65536 + d) % 65536 ≡ d = omega arith in
      let a : (at * 65536 + d) / 65536 ≡ at = omega arith in
      record {
        fits = λ z. omega arith;
        settles = inr ((λ z. omega arith), ap (class_in w) q ∙ D.some.2);
        finds = go q a;
      }
    where
      go : (at * 65536 + d) % 65536 ≡ d → (at * 65536 + d) / 65536 ≡ at
          → (sheet : Sheet) (set : List Configuration) (numbers : List ℕ) (p : Configuration) (m r i total : ℕ)
          → MemberHeld sheet set numbers p w n m r i first total → j < total → k ≤ j
          → Passed sheet set numbers (moves sheet p) (move_of sheet p j) k → Looked sheet set numbers p w first j (at * 65536 + d)
      go q a sheet set numbers p m r i total M jt kj pk =
          let s = D.some in
          let l : d ≤ n = D.fits in
          let x = P.pass sheet set numbers p m r i total M jt kj pk in
          let sh : Shows set (move_of sheet p j) (move_of sheet p at) d = lifted_shows M j at d jt (omega arith) s.1 s.0 in
          record {
            good = record {
              passed = subst (Passed sheet set numbers (moves sheet p) (move_of sheet p j)) (sym a) x.1;
              up_to = omega arith;
              shown = λ z. (
                omega arith,
                subst (λ (b : ℕ). Shows set (move_of sheet p j) (move_of sheet p b) ((at * 65536 + d) % 65536)) (sym a)
                    (subst (Shows set (move_of sheet p j) (move_of sheet p at)) (sym q) sh),
              );
            };
            last = λ z. absurd (omega arith);
            one_class = λ z. ap (class_in w) q ∙ s.2;
          }

  -- none does
  pub looked_none : (at : ℕ) → j ≤ at → Passing w n first j k at → LookedFrom w n first j k (j * 65536 + 65535)
  looked_none at h P =
      let q : (j * 65536 + 65535) % 65536 ≡ 65535 = omega arith in
      let a : (j * 65536 + 65535) / 65536 ≡ j = omega arith in
      record { fits = λ z. absurd (z q); settles = inl refl; finds = go q a }
    where
      go : (j * 65536 + 65535) % 65536 ≡ 65535 → (j * 65536 + 65535) / 65536 ≡ j
          → (sheet : Sheet) (set : List Configuration) (numbers : List ℕ) (p : Configuration) (m r i total : ℕ)
          → MemberHeld sheet set numbers p w n m r i first total → j < total → k ≤ j
          → Passed sheet set numbers (moves sheet p) (move_of sheet p j) k → Looked sheet set numbers p w first j (j * 65536 + 65535)
      go q a sheet set numbers p m r i total M jt kj pk =
          let x = P.pass sheet set numbers p m r i total M jt kj pk in
          let e : at ≡ (j * 65536 + 65535) / 65536 = omega (arith, x.0) in
          record {
            good = record {
              passed = subst (Passed sheet set numbers (moves sheet p) (move_of sheet p j)) e x.1;
              up_to = omega arith;
              shown = λ z. absurd (z q);
            };
            last = λ z. a;
            one_class = λ z. absurd (z q);
          }

some : (b : Bool) → b ≡ true → not b ≡ true → ⊥
some true e f = let z : ◌≡◌ {A = ℕ} 0 1 = cc in omega arith
some false e f = let z : ◌≡◌ {A = ℕ} 0 1 = cc in omega arith

-- ---- judging
module _ (w : List ℕ) (n first j kept : ℕ) (t : ℕ) (is : kept ≡ get_or w (dominators_at + first + j) 0)
    (target : t ≡ get_or w (moves_at + first + j) 0 % 65536) (fits : KeptFits kept) (s : Bool)
    (still : s ≡ (not (eqb (kept % 65536) 65535) && eqb (class_in w (kept % 65536)) (class_in w t))) where
  module _ {sheet : Sheet} {set : List Configuration} {numbers : List ℕ} {p : Configuration} {m r i total : ℕ}
      (M : MemberHeld sheet set numbers p w n m r i first total) (jt : j < total) where
    -- a kept move that is shown to dominate makes the one at j redundant
    shown_redundant : (c : ℕ) → MoveKept sheet set numbers p j c → (c % 65536 ≡ 65535 → ⊥)
        → class_in w (c % 65536) ≡ class_in w (get_or w (moves_at + first + j) 0 % 65536)
        → redundant sheet set numbers p (move_of sheet p j) ≡ true
    shown_redundant c K d e =
        let x = K.shown d in
        kept_redundant sheet set numbers p (move_of sheet p j) (c / 65536) (omega (arith, span_count M, x.0))
        (ap (dominates sheet set numbers (move_of sheet p j))
        (get_d_any (moves sheet p) (c / 65536) (move_of sheet p j) no_move_lem (omega (arith, span_count M, x.0)))
        ∙ shows_dominates M j (c / 65536) (c % 65536) jt (omega (arith, x.0)) x.1 ∙ eq-eqb _ _ e)

    -- the place to look from has been passed
    looks_passed : (from : ℕ) → s ≡ false → MoveKept sheet set numbers p j kept
        → ((kept % 65536 ≡ 65535 → from ≡ kept / 65536) × ((kept % 65536 ≡ 65535 → ⊥) → from ≡ kept / 65536 + 1))
        → (from ≤ j) × Passed sheet set numbers (moves sheet p) (move_of sheet p j) from
    looks_passed from f K l = go (tested (eqb (kept % 65536) 65535))
      where
        go : Tested (eqb (kept % 65536) 65535) → (from ≤ j) × Passed sheet set numbers (moves sheet p) (move_of sheet p j) from
        go (passes e) =
            let z : from ≡ kept / 65536 = l.0 (eqb-true (kept % 65536) 65535 e) in
            (omega (arith, K.up_to), subst (Passed sheet set numbers (moves sheet p) (move_of sheet p j)) (sym z) K.passed)
        go (fails e) =
            let d : kept % 65536 ≡ 65535 → ⊥ = eqb-false (kept % 65536) 65535 e in
            let z : from ≡ kept / 65536 + 1 = l.1 d in
            let x = K.shown d in
            let c : eqb (class_in w (kept % 65536)) (class_in w (get_or w (moves_at + first + j) 0 % 65536)) ≡ false =
            ap (λ (q : ℕ). eqb (class_in w (kept % 65536)) (class_in w q)) (sym target)
            ∙ ap (λ (b : Bool). not b && eqb (class_in w (kept % 65536)) (class_in w t)) (sym e) ∙ sym still ∙ f in
            let g : dominates sheet set numbers (move_of sheet p j) (get_or (moves sheet p) (kept / 65536) (move_of sheet p j)) ≡ false =
            ap (dominates sheet set numbers (move_of sheet p j))
            (get_d_any (moves sheet p) (kept / 65536) (move_of sheet p j) no_move_lem (omega (arith, span_count M, x.0)))
            ∙ shows_dominates M j (kept / 65536) (kept % 65536) jt (omega (arith, x.0)) x.1 ∙ c in (
              omega (arith, x.0),
              subst (Passed sheet set numbers (moves sheet p) (move_of sheet p j)) (sym z)
                  (passed_one sheet set numbers (moves sheet p) (move_of sheet p j) (kept / 65536) K.passed g),
            )

    -- what was found decides
    found_judges : (next : ℕ) → Looked sheet set numbers p w first j next
        → redundant sheet set numbers p (move_of sheet p j) ≡ not (eqb (next % 65536) 65535)
    found_judges next L = go (tested (eqb (next % 65536) 65535))
      where
        go : Tested (eqb (next % 65536) 65535) → redundant sheet set numbers p (move_of sheet p j) ≡ not (eqb (next % 65536) 65535)
        go (passes e) =
            let d : next % 65536 ≡ 65535 = eqb-true (next % 65536) 65535 e in
            passed_own sheet set numbers p (move_of sheet p j) j
            (get_d_any (moves sheet p) j (move_of sheet p j) no_move_lem (omega (arith, span_count M)))
            (subst (Passed sheet set numbers (moves sheet p) (move_of sheet p j)) (L.last d) L.good.passed)
            ∙ ap not (sym e)
        go (fails e) =
            let d : next % 65536 ≡ 65535 → ⊥ = eqb-false (next % 65536) 65535 e in
            shown_redundant next L.good d (L.one_class d) ∙ ap not (sym e)

  -- the kept move still dominates
  pub judged_still : s ≡ true → Judged w n first j w false
  judged_still f = record {
    outside = outside_same (dominators_at + first + j) (dominators_at + first + j + 1) w;
    fits = subst KeptFits is fits;
    stands = inr (
      (λ z. some (eqb (kept % 65536) 65535) (eq-eqb (kept % 65536) 65535 (ap (λ (x : ℕ). x % 65536) is ∙ z))
          (and_left (not (eqb (kept % 65536) 65535)) (eqb (class_in w (kept % 65536)) (class_in w t)) (sym still ∙ f))),
      ap (λ (x : ℕ). class_in w (x % 65536)) (sym is)
          ∙ eqb-true (class_in w (kept % 65536)) (class_in w t)
          (and_right (not (eqb (kept % 65536) 65535)) (eqb (class_in w (kept % 65536)) (class_in w t)) (sym still ∙ f))
          ∙ ap (class_in w) target,
    );
    judges = λ sheet set numbers p m r i total M jt K. (K, by sheet set numbers p m r i total M jt K);
  }
    where
      by : (sheet : Sheet) (set : List Configuration) (numbers : List ℕ) (p : Configuration) (m r i total : ℕ)
          → MemberHeld sheet set numbers p w n m r i first total → j < total
          → MoveKept sheet set numbers p j (get_or w (dominators_at + first + j) 0)
          → redundant sheet set numbers p (move_of sheet p j) ≡ true
      by sheet set numbers p m r i total M jt K =
          let b : (not (eqb (kept % 65536) 65535) && eqb (class_in w (kept % 65536)) (class_in w t)) ≡ true = sym still ∙ f in
          shown_redundant M jt kept (subst (MoveKept sheet set numbers p j) (sym is) K)
          (λ z. some (eqb (kept % 65536) 65535) (eq-eqb (kept % 65536) 65535 z)
          (and_left (not (eqb (kept % 65536) 65535)) (eqb (class_in w (kept % 65536)) (class_in w t)) b))
          (eqb-true (class_in w (kept % 65536)) (class_in w t)
          (and_right (not (eqb (kept % 65536) 65535)) (eqb (class_in w (kept % 65536)) (class_in w t)) b) ∙ ap (class_in w) target)

  -- another one is looked for
  pub judged_next : s ≡ false → (from next : ℕ)
      → ((kept % 65536 ≡ 65535 → from ≡ kept / 65536) × ((kept % 65536 ≡ 65535 → ⊥) → from ≡ kept / 65536 + 1))
      → LookedFrom w n first j from next → dominators_at + first + j < length w → first + j < move_room
      → Judged w n first j (set w (dominators_at + first + j) next) (eqb (next % 65536) 65535)
  judged_next f from next l L h span =
      let e : get_or (set w (dominators_at + first + j) next) (dominators_at + first + j) 0 ≡ next =
      get_or-set_same w (dominators_at + first + j) next 0 h in
      record {
        outside = outside_set (dominators_at + first + j) (dominators_at + first + j + 1) w (dominators_at + first + j) next
            (omega arith) (omega arith);
        fits = subst KeptFits (sym e) L.fits;
        stands = stands e L.settles;
        judges = λ sheet set numbers p m r i total M jt K.
            let x = looks_passed M jt from f (subst (MoveKept sheet set numbers p j) (sym is) K) l in
            let y = L.finds sheet set numbers p m r i total M jt x.0 x.1 in
            (subst (MoveKept sheet set numbers p j) (sym e) y.good, found_judges M jt next y);
      }
    where
      u : List ℕ
      u = set w (dominators_at + first + j) next

      class : (i : ℕ) → class_in u i ≡ class_in w i
      class i = get_or-set_other w (dominators_at + first + j) (classes_at + i) next 0 (λ z. omega arith)

      goal : target_at u first j ≡ target_at w first j
      goal = ap (λ (x : ℕ). x % 65536) (get_or-set_other w (dominators_at + first + j) (moves_at + first + j) next 0 (λ z. omega arith))

      stands : kept_at u first j ≡ next
          → (next ≡ j * 65536 + 65535) ⊎ ((next % 65536 ≡ 65535 → ⊥) × (class_in w (next % 65536) ≡ class_in w (target_at w first j)))
          → Stands u first j
      stands e (inl x) = inl (e ∙ x)
      stands e (inr x) =
          inr (
            (λ z. x.0 (omega arith)),
            ap (λ (y : ℕ). class_in u (y % 65536)) e ∙ class (next % 65536) ∙ x.1 ∙ sym (ap (class_in u) goal ∙ class (target_at w first j)),
          )
