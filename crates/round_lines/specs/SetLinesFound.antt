-- The lines of every member of the set.
use Rattle.std.specs.Prelude.{◌≡◌, refl, ◌⊎◌, List, ℕ, ◌+◌, ◌-◌, ◌*◌, ◌%◌, ◌≤◌, ◌<◌, get_or, eqb, ltb}
use Rattle.std.proofs.Common.{sym, ap, ap₂, ◌∙◌, subst, inl, inr, arith, eqb-true, ltb-true, ltb-false}
use Rattle.std.proofs.lemmas.Bool.{eqb-false}
use Rattle.work_layout.specs.TestLaws.{Tested, tested, passes, fails}
use Rattle.number_lists.specs.NumberLists.{numbers_in}
use Rattle.number_lists.specs.NumberLaws.{numbers_same}
use Rattle.place_sets.specs.PlaceSets.{InSet}
use Rattle.dominators.specs.Sheet.{Configuration, Sheet}
use Rattle.work_layout.specs.SetLayout.{member_at, first_move, move_total}
use Rattle.dominators.specs.MemberLines.{lines_of}
use Rattle.dominators.specs.RoundLayout.{held_member_same}
use Rattle.dominators.specs.KeptMoves.{MoveKept, DominatorsKept, RoundHeld}
use Rattle.dominators.specs.KeptNumbers.{KeptFits}
use Rattle.dominators.specs.SliceShapes.{kept_at, target_at, Stands, stands_same, SpanFits, Shape, LinedOnly, lined_none, lined_then, member_lined, lined_set, lined_class, lined_first, lined_total, lined_round, lined_fits}
use Rattle.round_lines.specs.MemberLinesFound.{line_total, MemberDone}
use Rattle.round_lines.specs.WatchingMembers.{SetsGrown, grown_none, grown_then, MoveWatched, MemberWatches}
use Rattle.work_layout.specs.WorkLayout.{moves_at, dominators_at, line_totals_at, lines_at, member_room}

-- the lines of the member at place i stand in the slice
pub record MemberLined (sheet : Sheet) (set : List Configuration) (numbers w : List ℕ) (i : ℕ) : Type 0 where
  pub few : line_total w i ≤ move_total w i
  pub lines : numbers_in w (lines_at + first_move w i) (lines_at + first_move w i + line_total w i) ≡ lines_of sheet set numbers (member_at w i)

-- The lines of the member at place i stand in the slice, its moves are judged, and it is in the sets of those that they look at.
pub record LinesKept (sheet : Sheet) (set : List Configuration) (numbers w ws : List ℕ) (width n i : ℕ) : Type 0 where
  pub lined : MemberLined sheet set numbers w i
  pub stands : (j : ℕ) → j < move_total w i → Stands w (first_move w i) j
  pub watched : (j : ℕ) → j < move_total w i → MoveWatched w ws width n (first_move w i) j i

-- place i is one of the first k of a list
abbrev pub InList : List ℕ → ℕ → ℕ → Type 0
InList list k i = (j : ℕ) × (j < k) × (get_or list j 0 ≡ i)

-- the lines of the member at place i and their number are those of w
pub record LinesLeft (w v : List ℕ) (i : ℕ) : Type 0 where
  pub total : line_total v i ≡ line_total w i
  pub lines : (e : ℕ) → lines_at + first_move w i ≤ e → e < lines_at + first_move w i + move_total w i → get_or v e 0 ≡ get_or w e 0

-- v and vs came from w and ws: the members at the first k places of the list are ready, those that were ready stay so, and the lines of
-- members that are not in the list are left alone. Free: what the sets have beside those that are looked at.
pub record SetLined (w ws : List ℕ) (width n : ℕ) (list : List ℕ) (k : ℕ) (v vs : List ℕ) : Type 0 where
  pub only : LinedOnly w v
  pub shape : Shape v n
  pub grown : SetsGrown ws vs
  pub lines : (sheet : Sheet) (set : List Configuration) (numbers : List ℕ) (m r : ℕ) → RoundHeld sheet set numbers w n m r
      → DominatorsKept sheet set w n numbers
      → DominatorsKept sheet set v n numbers
      × ((i : ℕ) → i < n → InList list k i ⊎ LinesKept sheet set numbers w ws width n i → LinesKept sheet set numbers v vs width n i)
      × ((i : ℕ) → i < n → (InList list k i → ⊥) → LinesLeft w v i)

pub set_lined_first : (w ws : List ℕ) (width n : ℕ) (list : List ℕ) → Shape w n → SetLined w ws width n list 0 w ws
set_lined_first w ws width n list S = record {
  only = lined_none w;
  shape = S;
  grown = grown_none ws;
  lines = λ sheet set numbers m r R D. (D, (λ i l x. go sheet set numbers i x), (λ i l d. record { total = refl; lines = λ e a b. refl }));
}
  where
    go : (sheet : Sheet) (set : List Configuration) (numbers : List ℕ) (i : ℕ)
        → InList list 0 i ⊎ LinesKept sheet set numbers w ws width n i → LinesKept sheet set numbers w ws width n i
    go sheet set numbers i (inl x) = absurd (omega (arith, x.1))
    go sheet set numbers i (inr x) = x

-- the lines of the member at place k are worked out
module _ (n : ℕ) (v : List ℕ) (shape : Shape v n) (k : ℕ) (h : k < n) (u : List ℕ) (D : MemberDone v n k u) where
  abbrev f : ℕ → ℕ
  f i = first_move v i

  abbrev t : ℕ → ℕ
  t i = move_total v i

  fit : (i : ℕ) → i < n → SpanFits v n (f i) (t i)
  fit i l = shape.spans i l

  o : LinedOnly v u
  o = member_lined (omega (arith, shape.few)) (fit k h).span D.only

  small : (i : ℕ) → i < n → i < member_room
  small i l = omega (arith, shape.few)

  -- what is kept can be read
  kept_fits : (i : ℕ) → i < n → (j : ℕ) → j < t i → KeptFits (get_or u (dominators_at + f i + j) 0)
  kept_fits i l j b = go (tested (ltb (f i + j) (f k))) (tested (ltb (f i + j) (f k + t k)))
    where
      go : Tested (ltb (f i + j) (f k)) → Tested (ltb (f i + j) (f k + t k)) → KeptFits (get_or u (dominators_at + f i + j) 0)
      go (passes x) y =
          subst KeptFits (sym (D.only.low (dominators_at + f i + j) (omega (arith, ltb-true (f i + j) (f k) x)))) ((fit i l).kept j b)
      go (fails x) (fails y) =
          subst KeptFits (sym (D.only.between (dominators_at + f i + j) (λ e. omega (arith, (fit i l).span))
          (omega (arith, ltb-false (f i + j) (f k + t k) y)) (omega (arith, (fit i l).span)))) ((fit i l).kept j b)
      go (fails x) (passes y) =
          let a : f k ≤ f i + j = ltb-false (f i + j) (f k) x in
          let c : f i + j < f k + t k = ltb-true (f i + j) (f k + t k) y in
          let e : dominators_at + f k + (f i + j - f k) ≡ dominators_at + f i + j = omega arith in
          subst (λ (z : ℕ). KeptFits (get_or u z 0)) e (D.fits (f i + j - f k) (omega arith))

  pub next_shape : Shape u n
  next_shape = record {
    long = omega (arith, o.long, shape.long);
    few = shape.few;
    spans = λ i l.
        subst (λ (b : ℕ). SpanFits u n (first_move u i) b) (sym (lined_total o i (small i l)))
        (subst (λ (a : ℕ). SpanFits u n a (t i)) (sym (lined_first o i (small i l))) (lined_fits o (fit i l) (kept_fits i l)));
  }

  module _ (sheet : Sheet) (set : List Configuration) (numbers : List ℕ) (m r : ℕ) (R : RoundHeld sheet set numbers v n m r)
      (K : DominatorsKept sheet set v n numbers) where
    member : (i : ℕ) → i < n → member_at u i ≡ member_at v i
    member i l = held_member_same sheet set v u n m R.held (lined_set o) i l

    y : ((j : ℕ) → j < move_total v k → MoveKept sheet set numbers (member_at v k) j (get_or u (dominators_at + first_move v k + j) 0))
        × (numbers_in u (lines_at + first_move v k) (lines_at + first_move v k + line_total u k) ≡ lines_of sheet set numbers (member_at v k))
    y = D.lines sheet set numbers m r R (λ j b. K.at k j h b)

    -- another member's places are left alone
    low : (i : ℕ) → i < n → (k ≡ i → ⊥) → (j : ℕ) → j < t i → get_or u (dominators_at + f i + j) 0 ≡ get_or v (dominators_at + f i + j) 0
    low i l d j b = go (R.held.apart k i h l d)
      where
        go : (f k + t k ≤ f i) ⊎ (f i + t i ≤ f k) → get_or u (dominators_at + f i + j) 0 ≡ get_or v (dominators_at + f i + j) 0
        go (inl a) = D.only.between (dominators_at + f i + j) (λ e. omega (arith, (fit i l).span)) (omega arith) (omega (arith, (fit i l).span))
        go (inr a) = D.only.low (dominators_at + f i + j) (omega arith)

    high : (i : ℕ) → i < n → (k ≡ i → ⊥) → (e : ℕ) → lines_at + f i ≤ e → e < lines_at + f i + t i → get_or u e 0 ≡ get_or v e 0
    high i l d e a b = go (R.held.apart k i h l d)
      where
        go : (f k + t k ≤ f i) ⊎ (f i + t i ≤ f k) → get_or u e 0 ≡ get_or v e 0
        go (inl c) = D.only.high e (omega arith)
        go (inr c) = D.only.between e (λ z. omega (arith, small k h)) (omega (arith, (fit k h).span)) (omega arith)

    next_kept : DominatorsKept sheet set u n numbers
    next_kept = record { at = λ i j l b. go i j l (omega (arith, lined_total o i (small i l))) (tested (eqb k i)) }
      where
        there : (i j : ℕ) → i < n → MoveKept sheet set numbers (member_at v i) j (get_or u (dominators_at + f i + j) 0)
            → MoveKept sheet set numbers (member_at u i) j (get_or u (dominators_at + first_move u i + j) 0)
        there i j l z =
            subst (λ (p : Configuration). MoveKept sheet set numbers p j (get_or u (dominators_at + first_move u i + j) 0)) (sym (member i l))
            (subst (λ (a : ℕ). MoveKept sheet set numbers (member_at v i) j (get_or u (dominators_at + a + j) 0)) (sym (lined_first o i (small i l))) z)

        go : (i j : ℕ) → i < n → j < t i → Tested (eqb k i)
            → MoveKept sheet set numbers (member_at u i) j (get_or u (dominators_at + first_move u i + j) 0)
        go i j l b (passes e) =
            subst (λ (a : ℕ). j < t a → MoveKept sheet set numbers (member_at u a) j (get_or u (dominators_at + first_move u a + j) 0)) (eqb-true k i e)
            (λ b. there k j h (y.0 j b)) b
        go i j l b (fails e) =
            there i j l (subst (MoveKept sheet set numbers (member_at v i) j) (sym (low i l (eqb-false k i e) j b)) (K.at i j l b))

    same_first : (i : ℕ) → i < n → first_move u i ≡ first_move v i
    same_first i l = lined_first o i (small i l)

    -- the target and what is kept of a move of another member
    same_target : (i : ℕ) → i < n → (j : ℕ) → j < t i → target_at u (f i) j ≡ target_at v (f i) j
    same_target i l j b = ap (λ (x : ℕ). x % 65536) (o.at_set (moves_at + f i + j) (omega arith) (omega (arith, (fit i l).span)))

    near : (i : ℕ) → i < n → (j : ℕ) → j < t i → target_at v (f i) j ≤ member_room
    near i l j b = omega (arith, (fit i l).targets j b, shape.few)

    this_lined : MemberLined sheet set numbers u k
    this_lined = record {
      few = omega (arith, D.few, lined_total o k (small k h));
      lines = ap (λ (a : ℕ). numbers_in u (lines_at + a) (lines_at + a + line_total u k)) (same_first k h)
          ∙ y.1 ∙ ap (lines_of sheet set numbers) (sym (member k h));
    }

    this_stands : (j : ℕ) → j < move_total u k → Stands u (first_move u k) j
    this_stands j b = subst (λ (a : ℕ). Stands u a j) (sym (same_first k h)) (D.stands j (omega (arith, lined_total o k (small k h))))

    module _ (i : ℕ) (l : i < n) (d : k ≡ i → ⊥) where
      other_left : LinesLeft v u i
      other_left = record {
        total = D.only.between (line_totals_at + i) (λ q. d (omega arith)) (omega (arith, (fit k h).span)) (omega (arith, small i l));
        lines = high i l d;
      }

      other_lined : MemberLined sheet set numbers v i → MemberLined sheet set numbers u i
      other_lined x =
          let z : line_total u i ≡ line_total v i = other_left.total in
          record {
            few = omega (arith, x.few, lined_total o i (small i l));
            lines = ap₂ (λ (a s : ℕ). numbers_in u (lines_at + a) (lines_at + a + s)) (same_first i l) z
                ∙ numbers_same v u (lines_at + f i) (lines_at + f i + line_total v i) o.long
                (λ e a q. high i l d e a (omega (arith, x.few)))
                ∙ x.lines ∙ ap (lines_of sheet set numbers) (sym (member i l));
          }

      other_stands : ((j : ℕ) → j < move_total v i → Stands v (first_move v i) j) → (j : ℕ) → j < move_total u i → Stands u (first_move u i) j
      other_stands x j b =
          let c : j < t i = omega (arith, lined_total o i (small i l)) in
          subst (λ (a : ℕ). Stands u a j) (sym (same_first i l))
          (stands_same v u (f i) j (low i l d j c) (same_target i l j c) (λ p q. lined_class o p q) (near i l j c) ((fit i l).kept j c) (x j c))

      other_watched : (ws us : List ℕ) (width : ℕ) → SetsGrown ws us
          → ((j : ℕ) → j < move_total v i → MoveWatched v ws width n (first_move v i) j i)
          → (j : ℕ) → j < move_total u i → MoveWatched u us width n (first_move u i) j i
      other_watched ws us width g x j b =
          let c : j < t i = omega (arith, lined_total o i (small i l)) in
          let y = x j c in
          let et : target_at u (f i) j ≡ target_at v (f i) j = same_target i l j c in
          let ek : kept_at u (f i) j % 65536 ≡ kept_at v (f i) j % 65536 = ap (λ (z : ℕ). z % 65536) (low i l d j c) in
          subst (λ (a : ℕ). MoveWatched u us width n a j i) (sym (same_first i l)) (
            subst (λ (p : ℕ). InSet us (p * width) i) (sym et) (g.more (target_at v (f i) j * width) i y.0),
            λ q. subst (λ (p : ℕ). InSet us (p * width) i) (sym ek) (g.more (kept_at v (f i) j % 65536 * width) i (y.1 (omega arith))),
          )

-- one member of the list more, whose lines were worked out and which was put into the sets
module _ (w ws : List ℕ) (width n : ℕ) (list : List ℕ) (k : ℕ) (v vs : List ℕ) (S : SetLined w ws width n list k v vs)
    (i : ℕ) (is : get_or list k 0 ≡ i) (h : i < n) (u : List ℕ) (D : MemberDone v n i u) (us : List ℕ) (W : MemberWatches u vs width n i us) where
  pub set_lined_next : SetLined w ws width n list (k + 1) u us
  set_lined_next = record {
    only = lined_then S.only (o n v S.shape i h u D);
    shape = next_shape n v S.shape i h u D;
    grown = grown_then S.grown W.grown;
    lines = λ sheet set numbers m r R K.
        let x = S.lines sheet set numbers m r R K in
        let held = lined_round S.only R in (
          next_kept n v S.shape i h u D sheet set numbers m r held x.0,
          (λ p l y. go sheet set numbers m r held x.0 x.1 p l y (tested (eqb i p))),
          (λ p l d. left p l (x.2 p l (λ y. d (y.0, omega (arith, y.1), y.2)))
              (other_left n v S.shape i h u D sheet set numbers m r held x.0 p l (λ e. d (k, omega arith, is ∙ e)))),
        );
  }
    where
      left : (p : ℕ) → p < n → LinesLeft w v p → LinesLeft v u p → LinesLeft w u p
      left p l a b =
          let q : p < member_room = omega (arith, S.shape.few) in
          record {
            total = b.total ∙ a.total;
            lines = λ e f g.
                b.lines e (omega (arith, lined_first S.only p q)) (omega (arith, lined_first S.only p q, lined_total S.only p q))
                ∙ a.lines e f g;
          }

      before : (p : ℕ) → (i ≡ p → ⊥) → InList list (k + 1) p → InList list k p
      before p d x = (x.0, less (tested (eqb x.0 k)), x.2)
        where
          less : Tested (eqb x.0 k) → x.0 < k
          less (passes e) = absurd (d (sym is ∙ ap (λ (z : ℕ). get_or list z 0) (sym (eqb-true x.0 k e)) ∙ x.2))
          less (fails e) = omega (arith, x.1, eqb-false x.0 k e)

      go : (sheet : Sheet) (set : List Configuration) (numbers : List ℕ) (m r : ℕ) → RoundHeld sheet set numbers v n m r
          → DominatorsKept sheet set v n numbers
          → ((p : ℕ) → p < n → InList list k p ⊎ LinesKept sheet set numbers w ws width n p → LinesKept sheet set numbers v vs width n p)
          → (p : ℕ) → p < n → InList list (k + 1) p ⊎ LinesKept sheet set numbers w ws width n p → Tested (eqb i p)
          → LinesKept sheet set numbers u us width n p
      go sheet set numbers m r R K f p l y (passes e) =
          subst (λ (z : ℕ). LinesKept sheet set numbers u us width n z) (eqb-true i p e) (record {
            lined = this_lined n v S.shape i h u D sheet set numbers m r R K;
            stands = this_stands n v S.shape i h u D sheet set numbers m r R K;
            watched = W.watched;
          })
      go sheet set numbers m r R K f p l y (fails e) =
          let d : i ≡ p → ⊥ = eqb-false i p e in
          let x = f p l (by y) in record {
            lined = other_lined n v S.shape i h u D sheet set numbers m r R K p l d x.lined;
            stands = other_stands n v S.shape i h u D sheet set numbers m r R K p l d x.stands;
            watched = other_watched n v S.shape i h u D sheet set numbers m r R K p l d vs us width W.grown x.watched;
          }
        where
          by : InList list (k + 1) p ⊎ LinesKept sheet set numbers w ws width n p
              → InList list k p ⊎ LinesKept sheet set numbers w ws width n p
          by (inl z) = inl (before p (eqb-false i p e) z)
          by (inr z) = inr z
