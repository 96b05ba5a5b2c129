-- The lines of one member, put in one after the other.
use Rattle.std.specs.Prelude.{◌≡◌, refl, ◌⊎◌, Bool, true, false, not, ℕ, suc, ◌+◌, ◌-◌, ◌/◌, ◌%◌, ◌≤◌, ◌<◌, length, get_or, set, eqb, ltb}
use Rattle.std.proofs.Common.{sym, ap, ap₂, ◌∙◌, subst, inl, inr, arith, length-set, get_or-set_same, get_or-set_other, eqb-true, ltb-true, ltb-false}
use mathlib.Core.List.Memᴰ
use mathlib.Core.List.{List, [], ◌∷◌, Memᴰ}
use Rattle.std.proofs.lemmas.Bool.{eqb-false}
use Rattle.work_layout.specs.TestLaws.{true_false, Tested, tested, passes, fails}
use Rattle.number_lists.specs.Lists.{Ascends, enter}
use Rattle.number_lists.specs.AscendingLaws.{ascends_unique, enter_in, enter_keeps, enter_only, enter_ascends, number_order}
use Rattle.number_lists.specs.Frames.{outside_set}
use Rattle.number_lists.specs.ListPlaces.{get_d_in}
use Rattle.number_lists.specs.NumberLists.{numbers_in}
use Rattle.number_lists.specs.NumberLaws.{numbers_none, numbers_none_ascend, numbers_outside}
use Rattle.std.specs.Prelude.{Option, Some, None, unwrap_or}
use Rattle.number_lists.specs.Entered.{Entered, NoRoom, PutIs}
use Rattle.number_lists.specs.EnteredLaws.{entered_ascends}
use Rattle.dominators.specs.Sheet.{Configuration, Sheet}
use Rattle.dominators.specs.Orders.{Move}
use Rattle.dominators.specs.Moves.{moves}
use Rattle.work_layout.specs.SetLayout.{member_at, first_move, move_total}
use Rattle.work_layout.specs.Rounds.{redundant}
use Rattle.dominators.specs.MemberLines.{packed_line, line_of, lines_of, lines_ascend, line_in, line_only}
use Rattle.dominators.specs.KeptMoves.{no_move_lem, move_of, MoveKept, RoundHeld, MemberHeld, span_count, span_line}
use Rattle.dominators.specs.KeptNumbers.{KeptFits}
use Rattle.dominators.specs.SliceShapes.{Stands, stands_same, SpanFits, SpanOnly, only_none, only_then, MemberOnly, LinedOnly, span_lined, lined_class, lined_member, lined_fits}
use Rattle.dominators.specs.DominatorSearch.{Judged}
use Rattle.work_layout.specs.WorkLayout.{moves_at, dominators_at, line_totals_at, classes_at, lines_at, move_room}
use Rattle.work_layout.specs.ClassLayout.{class_in}

-- how many lines the member at place i has
abbrev pub line_total : List ℕ → ℕ → ℕ
line_total w i = get_or w (line_totals_at + i) 0

-- ---- the lines of the irredundant moves before place j
pub record LinesSoFar (sheet : Sheet) (set : List Configuration) (numbers : List ℕ) (p : Configuration) (j : ℕ) (xs : List ℕ) : Type 0 where
  pub ascends : Ascends number_order.before xs
  pub has : (t : ℕ) → t < j → redundant sheet set numbers p (move_of sheet p t) ≡ false
      → Memᴰ (line_of sheet set numbers (move_of sheet p t)) xs
  pub only : (l : ℕ) → Memᴰ l xs
      → (t : ℕ) × (t < j) × (redundant sheet set numbers p (move_of sheet p t) ≡ false) × (l ≡ line_of sheet set numbers (move_of sheet p t))

module _ (sheet : Sheet) (set : List Configuration) (numbers : List ℕ) (p : Configuration) where
  pub so_far_none : (xs : List ℕ) → xs ≡ [] → Ascends number_order.before xs → LinesSoFar sheet set numbers p 0 xs
  so_far_none xs e a = record {
    ascends = a;
    has = λ t h. absurd (omega arith);
    only = λ l m. absurd (Memᴰ.not-nil (subst (λ (ys : List ℕ). Memᴰ l ys) e m));
  }

  -- a redundant move adds nothing
  pub so_far_same : (j : ℕ) (xs ys : List ℕ) → LinesSoFar sheet set numbers p j xs
      → redundant sheet set numbers p (move_of sheet p j) ≡ true → ys ≡ xs → LinesSoFar sheet set numbers p (j + 1) ys
  so_far_same j xs ys L r e = subst (LinesSoFar sheet set numbers p (j + 1)) (sym e) (record {
    ascends = L.ascends;
    has = λ t h f. go t h f (tested (eqb t j));
    only = λ l m. let x = L.only l m in (x.0, omega (arith, x.1), x.2, x.3);
  })
    where
      go : (t : ℕ) → t < j + 1 → redundant sheet set numbers p (move_of sheet p t) ≡ false → Tested (eqb t j)
          → Memᴰ (line_of sheet set numbers (move_of sheet p t)) xs
      go t h f (passes z) =
          true_false (redundant sheet set numbers p (move_of sheet p j)) r
          (subst (λ (k : ℕ). redundant sheet set numbers p (move_of sheet p k) ≡ false) (eqb-true t j z) f)
      go t h f (fails z) = L.has t (omega (arith, eqb-false t j z)) f

  -- an irredundant one adds its line
  pub so_far_more : (j : ℕ) (xs ys : List ℕ) → LinesSoFar sheet set numbers p j xs
      → redundant sheet set numbers p (move_of sheet p j) ≡ false
      → ys ≡ enter number_order.before (line_of sheet set numbers (move_of sheet p j)) xs → LinesSoFar sheet set numbers p (j + 1) ys
  so_far_more j xs ys L r e = subst (LinesSoFar sheet set numbers p (j + 1)) (sym e) (record {
    ascends = enter_ascends number_order (line_of sheet set numbers (move_of sheet p j)) xs L.ascends;
    has = λ t h f. go t h f (tested (eqb t j));
    only = λ l m. by l (enter_only number_order (line_of sheet set numbers (move_of sheet p j)) xs m);
  })
    where
      go : (t : ℕ) → t < j + 1 → redundant sheet set numbers p (move_of sheet p t) ≡ false → Tested (eqb t j)
          → Memᴰ (line_of sheet set numbers (move_of sheet p t)) (enter number_order.before (line_of sheet set numbers (move_of sheet p j)) xs)
      go t h f (passes z) =
          subst
          (λ (k : ℕ). Memᴰ (line_of sheet set numbers (move_of sheet p k)) (enter number_order.before (line_of sheet set numbers (move_of sheet p j)) xs))
          (sym (eqb-true t j z)) (enter_in number_order (line_of sheet set numbers (move_of sheet p j)) xs)
      go t h f (fails z) =
          enter_keeps number_order (line_of sheet set numbers (move_of sheet p j)) xs (L.has t (omega (arith, eqb-false t j z)) f)

      by : (l : ℕ) → (l ≡ line_of sheet set numbers (move_of sheet p j)) ⊎ Memᴰ l xs
          → (t : ℕ) × (t < j + 1) × (redundant sheet set numbers p (move_of sheet p t) ≡ false) × (l ≡ line_of sheet set numbers (move_of sheet p t))
      by l (inl z) = (j, omega arith, r, z)
      by l (inr m) = let x = L.only l m in (x.0, omega (arith, x.1), x.2, x.3)

  place_of : (ms : List Move) (m : Move) → Memᴰ m ms → (t : ℕ) × (t < length ms) × (m ≡ get_or ms t no_move_lem)
  place_of [] m i = absurd (Memᴰ.not-nil i)
  place_of (k ∷ ms) m i = go (place_of ms m) (Memᴰ.cases_cons i)
    where
      go : (Memᴰ m ms → (t : ℕ) × (t < length ms) × (m ≡ get_or ms t no_move_lem)) → (m ≡ k) ⊎ Memᴰ m ms
          → (t : ℕ) × (t < length (k ∷ ms)) × (m ≡ get_or (k ∷ ms) t no_move_lem)
      go ih (inl e) = (0, omega arith, e)
      go ih (inr i) = let x = ih i in (suc x.0, omega (arith, x.1), x.2)

  -- after the last move they are the lines
  pub so_far_all : (j : ℕ) (xs : List ℕ) → LinesSoFar sheet set numbers p j xs → length (moves sheet p) ≡ j → xs ≡ lines_of sheet set numbers p
  so_far_all j xs L e =
      ascends_unique number_order xs (lines_of sheet set numbers p) L.ascends (lines_ascend sheet set numbers p)
      (λ l m. let x = L.only l m in
      subst (λ (k : ℕ). Memᴰ k (lines_of sheet set numbers p)) (sym x.3)
      (line_in sheet set numbers p (move_of sheet p x.0) (get_d_in (moves sheet p) x.0 no_move_lem (omega (arith, x.1))) x.2))
      (λ l m. let x = line_only sheet set numbers p l m in
      let y = place_of (moves sheet p) x.0 x.1 in
      subst (λ (k : ℕ). Memᴰ k xs) (sym (x.3 ∙ ap (line_of sheet set numbers) y.2))
      (L.has y.0 (omega (arith, y.1))
      (subst (λ (k : Move). redundant sheet set numbers p k ≡ false) y.2 x.2)))

  -- the lines are those after the last move
  pub so_far_lines : (j : ℕ) → length (moves sheet p) ≡ j → LinesSoFar sheet set numbers p j (lines_of sheet set numbers p)
  so_far_lines j e = record {
    ascends = lines_ascend sheet set numbers p;
    has = λ t h f. line_in sheet set numbers p (move_of sheet p t) (get_d_in (moves sheet p) t no_move_lem (omega arith)) f;
    only = λ l m.
        let x = line_only sheet set numbers p l m in
        let y = place_of (moves sheet p) x.0 x.1 in (
          y.0,
          omega (arith, y.1),
          subst (λ (k : Move). redundant sheet set numbers p k ≡ false) y.2 x.2,
          x.3 ∙ ap (line_of sheet set numbers) y.2,
        );
  }

-- ---- one move
-- the move at place j was judged and its line put in: the lines end at r in v
pub record LineMoved (w : List ℕ) (n first total j end : ℕ) (v : List ℕ) (r : ℕ) : Type 0 where
  pub room : (end ≤ r) × (r ≤ end + 1)
  pub ascends : Ascends number_order.before (numbers_in v (lines_at + first) r)
  pub only : SpanOnly first total w v
  pub others : (t : ℕ) → (t ≡ j → ⊥) → t < total → get_or v (dominators_at + first + t) 0 ≡ get_or w (dominators_at + first + t) 0
  pub fits : KeptFits (get_or v (dominators_at + first + j) 0)
  pub stands : Stands v first j
  pub lines : (sheet : Sheet) (set : List Configuration) (numbers : List ℕ) (p : Configuration) (m rd i : ℕ)
      → MemberHeld sheet set numbers p w n m rd i first total
      → MoveKept sheet set numbers p j (get_or w (dominators_at + first + j) 0)
      → LinesSoFar sheet set numbers p j (numbers_in w (lines_at + first) end)
      → MoveKept sheet set numbers p j (get_or v (dominators_at + first + j) 0)
      × LinesSoFar sheet set numbers p (j + 1) (numbers_in v (lines_at + first) r)

-- only the number that is kept for the move at j differs
pub judged_only : {w v : List ℕ} {n first j : ℕ} {b : Bool} → Judged w n first j v b → (total : ℕ) → j < total → first + total ≤ move_room
    → SpanOnly first total w v
judged_only {w} {v} {n} {first} {j} J total h s = record {
  long = J.outside.long;
  low = λ k a. J.outside.at k (inl (omega arith));
  between = λ k a c. J.outside.at k (inr (omega arith));
  high = λ k a. J.outside.at k (inr (omega arith));
}

module _ (w : List ℕ) (n first total j end : ℕ) (fit : SpanFits w n first total) (jt : j < total)
    (ends : (lines_at + first ≤ end) × (end ≤ lines_at + first + j)) (u : List ℕ) (b : Bool) (J : Judged w n first j u b) where
  -- lines are not touched by judging
  judged_lines : numbers_in u (lines_at + first) end ≡ numbers_in w (lines_at + first) end
  judged_lines = numbers_outside (lines_at + first) end (inr (omega (arith, fit.span))) J.outside

  judged_others : (t : ℕ) → (t ≡ j → ⊥) → t < total → get_or u (dominators_at + first + t) 0 ≡ get_or w (dominators_at + first + t) 0
  judged_others t d l = go (tested (ltb t j))
    where
      go : Tested (ltb t j) → get_or u (dominators_at + first + t) 0 ≡ get_or w (dominators_at + first + t) 0
      go (passes z) = J.outside.at (dominators_at + first + t) (inl (omega (arith, ltb-true t j z)))
      go (fails z) =
          let l : j < t = after (ltb-false t j z) in
          J.outside.at (dominators_at + first + t) (inr (omega arith))
        where
          after : j ≤ t → j < t
          after a = still (tested (eqb t j))
            where
              still : Tested (eqb t j) → j < t
              still (passes e) = absurd (d (eqb-true t j e))
              still (fails e) = let f : t ≡ j → ⊥ = eqb-false t j e in omega arith

  pub judged_ascends : Ascends number_order.before (numbers_in w (lines_at + first) end) → Ascends number_order.before (numbers_in u (lines_at + first) end)
  judged_ascends a = subst (Ascends number_order.before) (sym judged_lines) a

  -- the moves can be read as before
  pub judged_fits : SpanFits u n first total
  judged_fits = lined_fits (span_lined fit.span (judged_only J total jt fit.span)) fit (λ t l. go t l (tested (eqb t j)))
    where
      go : (t : ℕ) → t < total → Tested (eqb t j) → KeptFits (get_or u (dominators_at + first + t) 0)
      go t l (passes z) = subst (λ (k : ℕ). KeptFits (get_or u (dominators_at + first + k) 0)) (sym (eqb-true t j z)) J.fits
      go t l (fails z) = subst KeptFits (sym (judged_others t (eqb-false t j z) l)) (fit.kept t l)

  -- a redundant move
  pub moved_none : b ≡ false → Ascends number_order.before (numbers_in w (lines_at + first) end) → LineMoved w n first total j end u end
  moved_none f a = record {
    room = (omega arith, omega arith);
    ascends = judged_ascends a;
    only = judged_only J total jt fit.span;
    others = judged_others;
    fits = J.fits;
    stands = J.stands;
    lines = λ sheet set numbers p m rd i M K L.
        let x = J.judges sheet set numbers p m rd i total M jt K in (
          x.0,
          so_far_same sheet set numbers p j (numbers_in w (lines_at + first) end) (numbers_in u (lines_at + first) end) L
              (x.1 ∙ ap not f) judged_lines,
        );
  }

  -- an irredundant one, whose line was entered
  pub moved_one : b ≡ true → Ascends number_order.before (numbers_in w (lines_at + first) end) → (line : ℕ)
      → line ≡ packed_line (get_or u (moves_at + first + j) 0 / 65536) (class_in u (get_or u (moves_at + first + j) 0 % 65536))
      → (v : List ℕ) (r : ℕ) → Entered u (lines_at + first) end (lines_at + first + total) line v r → LineMoved w n first total j end v r
  moved_one f a line e v r E = record {
    room = (E.room.0, E.room.2);
    ascends = entered_ascends E (judged_ascends a);
    only = only_then (judged_only J total jt fit.span) (record {
      long = E.outside.long;
      low = λ k h. E.outside.at k (inl (omega (arith, fit.span)));
      between = λ k h l. E.outside.at k (inl l);
      high = λ k h. E.outside.at k (inr (omega (arith, E.room.1)));
    });
    others = λ t d l. low t l ∙ judged_others t d l;
    fits = subst KeptFits (sym (low j jt)) J.fits;
    stands = stands_same u v first j (low j jt)
        (ap (λ (x : ℕ). x % 65536) (E.outside.at (moves_at + first + j) (inl (omega (arith, fit.span)))))
        (λ i h. E.outside.at (classes_at + i) (inl (omega arith))) (omega (arith, judged_fits.targets j jt, judged_fits.few)) J.fits J.stands;
    lines = λ sheet set numbers p m rd i M K L.
        let x = J.judges sheet set numbers p m rd i total M jt K in
        let N = lined_member (span_lined fit.span (judged_only J total jt fit.span)) M in (
          subst (MoveKept sheet set numbers p j) (sym (low j jt)) x.0,
          so_far_more sheet set numbers p j (numbers_in w (lines_at + first) end) (numbers_in v (lines_at + first) r) L
              (x.1 ∙ ap not f)
              (E.numbers ∙ ap₂ (enter number_order.before) (e ∙ span_line N j jt) judged_lines),
        );
  }
    where
      low : (t : ℕ) → t < total → get_or v (dominators_at + first + t) 0 ≡ get_or u (dominators_at + first + t) 0
      low t l = E.outside.at (dominators_at + first + t) (inl (omega (arith, fit.span)))

  -- the same by the answer of the list: it is never full, as there are no more lines than moves before
  pub moved_put : b ≡ true → Ascends number_order.before (numbers_in w (lines_at + first) end) → (line : ℕ)
      → line ≡ packed_line (get_or u (moves_at + first + j) 0 / 65536) (class_in u (get_or u (moves_at + first + j) 0 % 65536))
      → (v : List ℕ) (a : Option ℕ) → PutIs u (lines_at + first) end (lines_at + first + total) line v a → (r : ℕ) → a ≡ Some r
      → LineMoved w n first total j end v r
  moved_put f s line e v a E r is =
      moved_one f s line e v r (subst (PutIs u (lines_at + first) end (lines_at + first + total) line v) is E)

  pub moved_full : (line : ℕ) (v : List ℕ) (a : Option ℕ) → PutIs u (lines_at + first) end (lines_at + first + total) line v a → a ≡ None → ⊥
  moved_full line v a E is =
      let x : NoRoom u (lines_at + first) end (lines_at + first + total) line v =
      subst (PutIs u (lines_at + first) end (lines_at + first + total) line v) is E in
      omega (arith, x.full, ends)

  -- so the end is what the list gives, whatever stands for none
  pub moved_entered : b ≡ true → Ascends number_order.before (numbers_in w (lines_at + first) end) → (line : ℕ)
      → line ≡ packed_line (get_or u (moves_at + first + j) 0 / 65536) (class_in u (get_or u (moves_at + first + j) 0 % 65536))
      → (v : List ℕ) (a : Option ℕ) → PutIs u (lines_at + first) end (lines_at + first + total) line v a → (r : ℕ) → r ≡ unwrap_or a end
      → LineMoved w n first total j end v r
  moved_entered f s line e v (Some x) E r is = moved_put f s line e v (Some x) E r (ap Some (sym is))
  moved_entered f s line e v None E r is = absurd (moved_full line v None E refl)

-- ---- all moves of a member
-- the moves before place j are done
pub record LiningMember (w : List ℕ) (n first total : ℕ) (v : List ℕ) (end j : ℕ) : Type 0 where
  pub ends : (lines_at + first ≤ end) × (end ≤ lines_at + first + j) × (j ≤ total)
  pub ascends : Ascends number_order.before (numbers_in v (lines_at + first) end)
  pub only : SpanOnly first total w v
  pub later : (t : ℕ) → j ≤ t → t < total → get_or v (dominators_at + first + t) 0 ≡ get_or w (dominators_at + first + t) 0
  pub fits : (t : ℕ) → t < total → KeptFits (get_or v (dominators_at + first + t) 0)
  pub stands : (t : ℕ) → t < j → Stands v first t
  pub lines : (sheet : Sheet) (set : List Configuration) (numbers : List ℕ) (p : Configuration) (m rd i : ℕ)
      → MemberHeld sheet set numbers p w n m rd i first total
      → ((t : ℕ) → t < total → MoveKept sheet set numbers p t (get_or w (dominators_at + first + t) 0))
      → ((t : ℕ) → t < j → MoveKept sheet set numbers p t (get_or v (dominators_at + first + t) 0))
      × LinesSoFar sheet set numbers p j (numbers_in v (lines_at + first) end)

module _ (w : List ℕ) (n first total : ℕ) (fit : SpanFits w n first total) where
  pub lining_first : LiningMember w n first total w (lines_at + first) 0
  lining_first = record {
    ends = (omega arith, omega arith, omega arith);
    ascends = numbers_none_ascend w (lines_at + first);
    only = only_none first total w;
    later = λ t h l. refl;
    fits = fit.kept;
    stands = λ t h. absurd (omega arith);
    lines = λ sheet set numbers p m rd i M K. (
      (λ t h. absurd (omega arith)),
      so_far_none sheet set numbers p (numbers_in w (lines_at + first) (lines_at + first)) (numbers_none w (lines_at + first))
          (numbers_none_ascend w (lines_at + first)),
    );
  }

  pub lining_fits : (v : List ℕ) (end j : ℕ) → LiningMember w n first total v end j → SpanFits v n first total
  lining_fits v end j L = lined_fits (span_lined fit.span L.only) fit L.fits

  pub lining_next : (v : List ℕ) (end j : ℕ) → LiningMember w n first total v end j → j < total → (u : List ℕ) (r : ℕ)
      → LineMoved v n first total j end u r → LiningMember w n first total u r (j + 1)
  lining_next v end j L h u r E = record {
    ends = (omega (arith, E.room, L.ends), omega (arith, E.room, L.ends), omega arith);
    ascends = E.ascends;
    only = only_then L.only E.only;
    later = λ t a l. E.others t (λ e. omega arith) l ∙ L.later t (omega arith) l;
    fits = λ t l. fits t l (tested (eqb t j));
    stands = λ t l. stands t l (tested (eqb t j));
    lines = λ sheet set numbers p m rd i M K.
        let x = L.lines sheet set numbers p m rd i M K in
        let y = E.lines sheet set numbers p m rd i (lined_member (span_lined fit.span L.only) M)
        (subst (MoveKept sheet set numbers p j) (sym (L.later j (omega arith) h)) (K j h)) x.1 in
        ((λ t l. kept sheet set numbers p x.0 y.0 t l (tested (eqb t j))), y.1);
  }
    where
      fits : (t : ℕ) → t < total → Tested (eqb t j) → KeptFits (get_or u (dominators_at + first + t) 0)
      fits t l (passes z) = subst (λ (k : ℕ). KeptFits (get_or u (dominators_at + first + k) 0)) (sym (eqb-true t j z)) E.fits
      fits t l (fails z) = subst KeptFits (sym (E.others t (eqb-false t j z) l)) (L.fits t l)

      stands : (t : ℕ) → t < j + 1 → Tested (eqb t j) → Stands u first t
      stands t l (passes z) = subst (Stands u first) (sym (eqb-true t j z)) E.stands
      stands t l (fails z) =
          let d : t ≡ j → ⊥ = eqb-false t j z in
          let o : LinedOnly v u = span_lined fit.span E.only in
          stands_same v u first t (E.others t d (omega arith))
          (ap (λ (x : ℕ). x % 65536) (o.at_set (moves_at + first + t) (omega arith) (omega (arith, fit.span))))
          (λ i h. lined_class o i h)
          (omega (arith, (lining_fits v end j L).targets t (omega arith), fit.few)) (L.fits t (omega arith)) (L.stands t (omega arith))

      kept : (sheet : Sheet) (set : List Configuration) (numbers : List ℕ) (p : Configuration)
          → ((t : ℕ) → t < j → MoveKept sheet set numbers p t (get_or v (dominators_at + first + t) 0))
          → MoveKept sheet set numbers p j (get_or u (dominators_at + first + j) 0)
          → (t : ℕ) → t < j + 1 → Tested (eqb t j) → MoveKept sheet set numbers p t (get_or u (dominators_at + first + t) 0)
      kept sheet set numbers p f g t l (passes z) =
          subst (λ (k : ℕ). MoveKept sheet set numbers p k (get_or u (dominators_at + first + k) 0)) (sym (eqb-true t j z)) g
      kept sheet set numbers p f g t l (fails z) =
          let d : t ≡ j → ⊥ = eqb-false t j z in
          subst (MoveKept sheet set numbers p t) (sym (E.others t d (omega arith))) (f t (omega arith))

-- the member at place i is done
pub record MemberDone (w : List ℕ) (n i : ℕ) (v : List ℕ) : Type 0 where
  pub only : MemberOnly i (first_move w i) (move_total w i) w v
  pub fits : (j : ℕ) → j < move_total w i → KeptFits (get_or v (dominators_at + first_move w i + j) 0)
  pub few : line_total v i ≤ move_total w i
  pub stands : (j : ℕ) → j < move_total w i → Stands v (first_move w i) j
  pub lines : (sheet : Sheet) (set : List Configuration) (numbers : List ℕ) (m rd : ℕ) → RoundHeld sheet set numbers w n m rd
      → ((j : ℕ) → j < move_total w i → MoveKept sheet set numbers (member_at w i) j (get_or w (dominators_at + first_move w i + j) 0))
      → ((j : ℕ) → j < move_total w i → MoveKept sheet set numbers (member_at w i) j (get_or v (dominators_at + first_move w i + j) 0))
      × (numbers_in v (lines_at + first_move w i) (lines_at + first_move w i + line_total v i) ≡ lines_of sheet set numbers (member_at w i))

-- its lines are counted
counted : (w : List ℕ) (n i : ℕ) → i < n → SpanFits w n (first_move w i) (move_total w i) → (v : List ℕ) (end x : ℕ)
    → LiningMember w n (first_move w i) (move_total w i) v end (move_total w i) → x ≡ end - (lines_at + first_move w i)
    → MemberDone w n i (set v (line_totals_at + i) x)
counted w n i l fit v end x L e = record {
  only = record {
    long = length-set v (line_totals_at + i) x ∙ L.only.long;
    low = λ k a. get_or-set_other v (line_totals_at + i) k x 0 (λ z. omega (arith, fit.span)) ∙ L.only.low k a;
    between = λ k d a b. get_or-set_other v (line_totals_at + i) k x 0 d ∙ L.only.between k a b;
    high = λ k a. get_or-set_other v (line_totals_at + i) k x 0 (λ z. omega (arith, fit.few)) ∙ L.only.high k a;
  };
  fits = λ j h. subst KeptFits (sym (kept_same j h)) (L.fits j h);
  few = omega (arith, total_is, L.ends);
  stands = λ j h.
      stands_same v (set v (line_totals_at + i) x) (first_move w i) j (kept_same j h)
      (ap (λ (z : ℕ). z % 65536) (get_or-set_other v (line_totals_at + i) (moves_at + first_move w i + j) x 0 (λ z. omega (arith, fit.span))))
      (λ k b. get_or-set_other v (line_totals_at + i) (classes_at + k) x 0 (λ z. omega (arith, fit.few)))
      (omega (arith, (lined_fits (span_lined fit.span L.only) fit L.fits).targets j h, fit.few)) (L.fits j h) (L.stands j h);
  lines = λ sheet set numbers m rd R K.
      let M : MemberHeld sheet set numbers (member_at w i) w n m rd i (first_move w i) (move_total w i) =
      record { round = R; inside = l; member_is = refl; first_is = refl; total_is = refl } in
      let y = L.lines sheet set numbers (member_at w i) m rd i M K in (
        (λ j h. subst (MoveKept sheet set numbers (member_at w i) j) (sym (kept_same j h)) (y.0 j h)),
        same_lines ∙ so_far_all sheet set numbers (member_at w i) (move_total w i) (numbers_in v (lines_at + first_move w i) end) y.1 (span_count M),
      );
}
  where
    kept_same : (j : ℕ) → j < move_total w i
        → get_or (set v (line_totals_at + i) x) (dominators_at + first_move w i + j) 0 ≡ get_or v (dominators_at + first_move w i + j) 0
    kept_same j h = get_or-set_other v (line_totals_at + i) (dominators_at + first_move w i + j) x 0 (λ z. omega (arith, fit.span))

    total_is : get_or (set v (line_totals_at + i) x) (line_totals_at + i) 0 ≡ x
    total_is = get_or-set_same v (line_totals_at + i) x 0 (omega (arith, fit.long, fit.few, L.only.long))

    same_lines : numbers_in (set v (line_totals_at + i) x) (lines_at + first_move w i)
        (lines_at + first_move w i + line_total (set v (line_totals_at + i) x) i)
        ≡ numbers_in v (lines_at + first_move w i) end
    same_lines =
        let z : lines_at + first_move w i + line_total (set v (line_totals_at + i) x) i ≡ end = omega (arith, total_is, L.ends) in
        ap (numbers_in (set v (line_totals_at + i) x) (lines_at + first_move w i)) z
        ∙ numbers_outside (lines_at + first_move w i) end (inr (omega (arith, fit.few)))
        (outside_set (line_totals_at + i) (line_totals_at + i + 1) v (line_totals_at + i) x (omega arith) (omega arith))

pub member_done : (w : List ℕ) (n i first total : ℕ) → i < n → SpanFits w n (first_move w i) (move_total w i)
    → first ≡ first_move w i → total ≡ move_total w i
    → (v : List ℕ) (end j : ℕ) → LiningMember w n first total v end j → total ≤ j
    → MemberDone w n i (set v (line_totals_at + i) (end - (lines_at + first)))
member_done w n i first total l fit ef et v end j L h =
    let e : j ≡ total = omega (arith, L.ends.2) in
    counted w n i l fit v end (end - (lines_at + first))
    (subst (λ (t : ℕ). LiningMember w n (first_move w i) t v end t) et
    (subst (λ (f : ℕ). LiningMember w n f total v end total) ef
    (subst (LiningMember w n first total v end) e L))) (omega arith)
