-- A member whose lines are those of the round before: each of its moves is either irredundant for good, with a target whose
-- class was not born since, or still dominated by the move that is kept for it.
use Rattle.std.specs.Prelude.{◌≡◌, ◌⊎◌, true, false, ℕ, ◌+◌, ◌*◌, ◌/◌, ◌%◌, ◌<◌, get_or}
use Rattle.std.proofs.Common.{sym, ap, ◌∙◌, subst, inl, inr, arith, eq-eqb}
use mathlib.Core.List.{List, Memᴰ}
use Rattle.work_layout.specs.TestLaws.{true_false, and_left, and_right, and_intro}
use Rattle.number_lists.specs.ListPlaces.{get_d_any, get_d_in}
use Rattle.place_sets.specs.Stores.{strictly_below}
use Rattle.dominators.specs.Sheet.{Configuration, Sheet}
use Rattle.dominators.specs.Orders.{Move}
use Rattle.dominators.specs.Moves.{moves, add}
use Rattle.work_layout.specs.SetLayout.{member_at}
use Rattle.work_layout.specs.Classes.{class_of, share}
use Rattle.work_layout.specs.Rounds.{redundant}
use Rattle.dominators.specs.DominatingMoves.{dominates, Passed, passed_own, kept_redundant}
use Rattle.dominators.specs.MemberLines.{packed_line, line_of, lines_of}
use Rattle.dominators.specs.RoundLayout.{held_place}
use Rattle.dominators.specs.KeptMoves.{no_move_lem, move_of, MoveKept, MemberHeld, span_count, span_in, span_move, span_target, span_line, shows_dominates}
use Rattle.dominators.specs.SliceShapes.{kept_at, target_at, Stands}
use Rattle.round_lines.specs.MemberLinesFound.{LinesSoFar, so_far_lines, so_far_all}
use Rattle.work_layout.specs.WorkLayout.{moves_at}
use Rattle.work_layout.specs.ClassLayout.{class_in}

-- the move at place j has the line it had when there were `old` classes, or none as it had none
abbrev pub Settled : List ℕ → ℕ → ℕ → ℕ → Type 0
Settled w first j old =
    ((kept_at w first j ≡ j * 65536 + 65535) × (class_in w (target_at w first j) < old))
    ⊎ ((kept_at w first j % 65536 ≡ 65535 → ⊥) × (class_in w (kept_at w first j % 65536) ≡ class_in w (target_at w first j)))

-- a move that stood in v, where neither the class of its target nor that of the kept member was born since, is settled
pub stood_settled : (v w : List ℕ) (n first j old : ℕ) → kept_at w first j ≡ kept_at v first j → target_at w first j ≡ target_at v first j
    → target_at w first j < n → ((kept_at w first j % 65536 ≡ 65535 → ⊥) → kept_at w first j % 65536 < n)
    → class_in w (target_at w first j) < old → (kept_at w first j % 65536 < n → class_in w (kept_at w first j % 65536) < old)
    → ((i : ℕ) → i < n → class_in w i < old → class_in w i ≡ class_in v i) → Stands v first j → Settled w first j old
stood_settled v w n first j old ek et lt lk t q c (inl x) = inl (ek ∙ x, t)
stood_settled v w n first j old ek et lt lk t q c (inr x) =
    let e : kept_at w first j % 65536 ≡ kept_at v first j % 65536 = ap (λ (z : ℕ). z % 65536) ek in
    let d : kept_at w first j % 65536 ≡ 65535 → ⊥ = λ (z : kept_at w first j % 65536 ≡ 65535). x.0 (omega arith) in
    inr (
      d,
      c (kept_at w first j % 65536) (lk d) (q (lk d)) ∙ ap (class_in v) e ∙ x.1 ∙ sym (c (target_at w first j) lt t ∙ ap (class_in v) et),
    )

-- a settled move stands
pub settled_stands : (w : List ℕ) (first j old : ℕ) → Settled w first j old → Stands w first j
settled_stands w first j old (inl x) = inl x.0
settled_stands w first j old (inr x) = inr x

-- `numbers` came from `before` by splitting: classes below `old` kept their numbers
pub record SplitFrom (set : List Configuration) (before numbers w : List ℕ) (n old : ℕ) : Type 0 where
  pub finer : (p q : Configuration) → Memᴰ p set → Memᴰ q set → share set numbers p q ≡ true → share set before p q ≡ true
  pub same : (i : ℕ) → i < n → class_in w i < old → get_or before i 0 ≡ class_in w i

-- ---- one member of the slice
module _ {sheet : Sheet} {set : List Configuration} {numbers : List ℕ} {p : Configuration} {w : List ℕ} {n m r i first total : ℕ}
    (M : MemberHeld sheet set numbers p w n m r i first total) (before : List ℕ) (old : ℕ) (F : SplitFrom set before numbers w n old) where
  inside : (j : ℕ) → j < total → Memᴰ (move_of sheet p j) (moves sheet p)
  inside j h = get_d_in (moves sheet p) j no_move_lem (omega (arith, span_count M))

  -- a move that dominates in the present classes did so before
  dominated : (j k : ℕ) → j < total → k < total → dominates sheet set numbers (move_of sheet p j) (move_of sheet p k) ≡ true
      → dominates sheet set before (move_of sheet p j) (move_of sheet p k) ≡ true
  dominated j k hj hk y =
      let a : Move = move_of sheet p j in
      let b : Move = move_of sheet p k in
      let u : Configuration = add sheet a.label b.target in
      let s : strictly_below b.label a.label ≡ true = and_left (strictly_below b.label a.label) (share set numbers a.target u) y in
      and_intro s (F.finer a.target u (M.round.closed.targets p a (span_in M) (inside j hj))
      (M.round.closed.addeds p b a (span_in M) (inside k hk) (inside j hj) s)
      (and_right (strictly_below b.label a.label) (share set numbers a.target u) y))

  -- a move that dominates makes the one at j redundant
  makes : (c : List ℕ) (j k : ℕ) → k < total → dominates sheet set c (move_of sheet p j) (move_of sheet p k) ≡ true
      → redundant sheet set c p (move_of sheet p j) ≡ true
  makes c j k hk y =
      kept_redundant sheet set c p (move_of sheet p j) k (omega (arith, span_count M))
      (ap (dominates sheet set c (move_of sheet p j)) (get_d_any (moves sheet p) k (move_of sheet p j) no_move_lem (omega (arith, span_count M))) ∙ y)

  -- where all moves before its own place were passed it is irredundant
  lacks : (c : List ℕ) (j kept : ℕ) → j < total → MoveKept sheet set c p j kept → kept ≡ j * 65536 + 65535
      → redundant sheet set c p (move_of sheet p j) ≡ false
  lacks c j kept h K e =
      let d : kept / 65536 ≡ j = omega arith in
      passed_own sheet set c p (move_of sheet p j) j
      (get_d_any (moves sheet p) j (move_of sheet p j) no_move_lem (omega (arith, span_count M)))
      (subst (Passed sheet set c (moves sheet p) (move_of sheet p j)) d K.passed)

  -- a class that kept its number gives the same line
  line_same : (j : ℕ) → j < total → class_in w (target_at w first j) < old
      → line_of sheet set before (move_of sheet p j) ≡ line_of sheet set numbers (move_of sheet p j)
  line_same j h l =
      let y : ℕ = get_or w (moves_at + first + j) 0 in
      let a : class_of set before (member_at w (y % 65536)) ≡ class_in w (y % 65536) =
      ap (λ (k : ℕ). get_or before k 0) (held_place sheet set w n m M.round.held M.round.ascends (y % 65536) (span_target M j h))
      ∙ F.same (y % 65536) (span_target M j h) l in
      ap (line_of sheet set before) (sym (span_move M j h)) ∙ ap (packed_line (y / 65536)) a ∙ span_line M j h

  -- what a settled move is in both rounds
  abbrev Both : ℕ → Type 0
  Both t =
      ((redundant sheet set before p (move_of sheet p t) ≡ false) × (redundant sheet set numbers p (move_of sheet p t) ≡ false)
      × (line_of sheet set before (move_of sheet p t) ≡ line_of sheet set numbers (move_of sheet p t)))
      ⊎ ((redundant sheet set before p (move_of sheet p t) ≡ true) × (redundant sheet set numbers p (move_of sheet p t) ≡ true))

  both : (j : ℕ) → j < total → MoveKept sheet set numbers p j (kept_at w first j) → MoveKept sheet set before p j (kept_at w first j)
      → Settled w first j old
      → Both j
  both j h K B (inl s) =
      inl (lacks before j (kept_at w first j) h B s.0, lacks numbers j (kept_at w first j) h K s.0, line_same j h s.1)
  both j h K B (inr s) =
      let x = K.shown s.0 in
      let k : ℕ = kept_at w first j / 65536 in
      let l : k < total = omega (arith, x.0) in
      let y : dominates sheet set numbers (move_of sheet p j) (move_of sheet p k) ≡ true =
      shows_dominates M j k (kept_at w first j % 65536) h l x.1 ∙ eq-eqb _ _ s.1 in
      inr (makes before j k l (dominated j k h l y), makes numbers j k l y)

  -- a member whose moves are all settled has the same lines in both rounds
  pub settled_lines : ((j : ℕ) → j < total → MoveKept sheet set numbers p j (kept_at w first j))
      → ((j : ℕ) → j < total → MoveKept sheet set before p j (kept_at w first j))
      → ((j : ℕ) → j < total → Settled w first j old) → lines_of sheet set before p ≡ lines_of sheet set numbers p
  settled_lines K B S =
      so_far_all sheet set numbers p total (lines_of sheet set before p) (record {
        ascends = L.ascends;
        has = λ t h f. has t h f (both t h (K t h) (B t h) (S t h));
        only = λ l x.
            let y = L.only l x in
            let h = y.1 in
            only l y.0 h y.2 y.3 (both y.0 h (K y.0 h) (B y.0 h) (S y.0 h));
      }) (span_count M)
    where
      L : LinesSoFar sheet set before p total (lines_of sheet set before p)
      L = so_far_lines sheet set before p total (span_count M)

      has : (t : ℕ) → t < total → redundant sheet set numbers p (move_of sheet p t) ≡ false → Both t
          → Memᴰ (line_of sheet set numbers (move_of sheet p t)) (lines_of sheet set before p)
      has t h f (inl x) = subst (λ (l : ℕ). Memᴰ l (lines_of sheet set before p)) x.2 (L.has t h x.0)
      has t h f (inr x) = true_false (redundant sheet set numbers p (move_of sheet p t)) x.1 f

      only : (l t : ℕ) → t < total → redundant sheet set before p (move_of sheet p t) ≡ false → l ≡ line_of sheet set before (move_of sheet p t)
          → Both t
          → (t : ℕ) × (t < total) × (redundant sheet set numbers p (move_of sheet p t) ≡ false) × (l ≡ line_of sheet set numbers (move_of sheet p t))
      only l t h f e (inl x) = (t, h, x.1, e ∙ x.2)
      only l t h f e (inr x) = true_false (redundant sheet set before p (move_of sheet p t)) x.0 f
