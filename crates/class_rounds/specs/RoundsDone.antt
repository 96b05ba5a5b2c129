-- Rounds until one splits no class: what holds after each round, and at the end.
use Rattle.std.specs.Prelude.{◌≡◌, refl, ◌⊎◌, Bool, true, false, ℕ, suc, ◌+◌, ◌*◌, ◌/◌, ◌%◌, ◌≤◌, ◌<◌, length, get_or, eqb, ltb}
use Rattle.std.proofs.Common.{sym, ap, ap₂, ◌∙◌, subst, inl, inr, arith, add-one, eqb-true, ltb-true, ltb-false}
use mathlib.Core.List.{List, Memᴰ}
use Rattle.std.proofs.lemmas.Bool.{eqb-false}
use Rattle.round_lines.specs.TestLaws.{Tested, tested, passes, fails}
use Rattle.round_lines.specs.Lists.{Ascends}
use Rattle.round_lines.specs.ListPlaces.{get_d_any}
use Rattle.round_lines.specs.Frames.{SameOutside}
use Rattle.round_lines.specs.Tabulate.{tabulate_same, tabulate_at}
use Rattle.round_lines.specs.TabulateLaws.{ascends_at}
use Rattle.dominators.specs.Sheet.{Configuration, Sheet}
use Rattle.dominators.specs.Orders.{configuration_before}
use Rattle.dominators.specs.OrderLaws.{configuration_order}
use Rattle.round_lines.specs.NumberLists.{numbers_in}
use Rattle.round_lines.specs.NumberLaws.{numbers_same}
use Rattle.round_steps.specs.PlaceSets.{InSet}
use Rattle.former_classes.specs.SetLayout.{member_at, first_move, move_total, SetHeld}
use Rattle.former_classes.specs.Refinement.{Round}
use Rattle.former_classes.specs.Classes.{place_of, class_of}
use Rattle.former_classes.specs.Rounds.{rounds}
use Rattle.former_classes.specs.SheetTransitions.{transitions}
use Rattle.dominators.specs.ClassLaws.{place_of_lt, place_of_at}
use Rattle.dominators.specs.RoundLaws.{Sharing}
use Rattle.dominators.specs.MemberLines.{lines_of}
use Rattle.dominators.specs.EarlierRounds.{round_earlier}
use Rattle.dominators.specs.ClassesPresent.{present_founders, present_alike, present_now}
use Rattle.dominators.specs.SetClasses.{present_early, present-result}
use Rattle.dominators.specs.ClassPlaces.{PresentAt, places_present}
use Rattle.dominators.specs.RoundLayout.{SameSet, same_set_trans, same_set_low, same_set_high, held_same, held_member_same, held_first_same, held_total_same, held_count_lem, held_at, number_in}
use Rattle.dominators.specs.KeptMoves.{MoveKept, DominatorsKept, RoundHeld, MemberHeld, dominators_later}
use Rattle.dominators.specs.SliceShapes.{kept_at, target_at, Shape, held_shape, lined_set, lined_class, lined_classes}
use Rattle.round_lines.specs.MemberLinesFound.{line_total}
use Rattle.round_lines.specs.SettledMoves.{Settled, stood_settled, settled_stands, SplitFrom, settled_lines}
use Rattle.round_lines.specs.WatchingMembers.{MoveWatched}
use Rattle.round_lines.specs.SetLinesFound.{MemberLined, LinesKept, InList, SetLined}
use Rattle.dominators.specs.ForgottenMoves.{Forgotten, forgotten_held}
use Rattle.round_steps.specs.ClassedPlaces.{chosen_in, Classed, classed_count, classed_same}
use Rattle.round_steps.specs.FirstRound.{store_in, StoresRise, Founding}
use Rattle.class_rounds.specs.RoundAtHand.{nobody, TogetherHeld, PresentHeld, present_held_same, SetReady, present_listed, present_round, Stage}
use Rattle.round_steps.specs.LineTests.{lines_held}
use Rattle.round_steps.specs.ChosenPlaces.{chosen_class, chosen_classed}
use Rattle.round_steps.specs.ChosenMembers.{Rechosen}
use Rattle.round_steps.specs.AwakeMembers.{ListFits, NextListed}
use Rattle.round_steps.specs.SplitRounds.{Splitting, splitting_all}
use Rattle.former_classes.specs.FormerClasses.{former_in, former_own, former_from, Restored}
use Rattle.class_rounds.specs.NextClasses.{next_together, next_present}
use Rattle.former_classes.specs.WorkLayout.{work_end, spans_at, moves_at, dominators_at, line_totals_at, classes_at, births_at, chosen_at, lines_at, member_room, move_room}
use Rattle.former_classes.specs.ClassLayout.{class_in, classes_in, born_in, from_in_lem}

-- some closed set, in its order, stands in the slice
pub record Ready (w : List ℕ) (n m : ℕ) : Type 0 where
  pub sheet : Sheet
  pub set : List Configuration
  pub ready : SetReady sheet set w n m

-- The set with its classes of round r, of which there are `count`: where each came from, and a member of each.
pub record RoundsHeld (sheet : Sheet) (set : List Configuration) (w : List ℕ) (n m r count : ℕ) : Type 0 where
  pub ready : SetReady sheet set w n m
  pub present : PresentAt sheet set nobody (from_in_lem w) (born_in w) count r (classes_in w n)
  pub classed : Classed w n count

-- w is v after r rounds, whatever closed set stands there; nothing behind the work places is changed
pub record Refined (v : List ℕ) (n m : ℕ) (w : List ℕ) (r count : ℕ) : Type 0 where
  pub long : length w ≡ length v
  pub at_end : (k : ℕ) → work_end ≤ k → get_or w k 0 ≡ get_or v k 0
  pub same_set : SameSet v w
  pub classed : Classed w n count
  pub bounds : (r < count) × (count ≤ n)
  pub rounds_held : (sheet : Sheet) (set : List Configuration) → SetReady sheet set v n m → RoundsHeld sheet set w n m r count

-- r is the result's round, whatever closed set stands in v
abbrev pub LastRound : List ℕ → ℕ → ℕ → ℕ → Type 0
LastRound v n m r = (sheet : Sheet) (set : List Configuration) → SetReady sheet set v n m → length (rounds sheet set) ≡ suc r

-- the result's round comes after r
abbrev pub LaterRound : List ℕ → ℕ → ℕ → ℕ → Type 0
LaterRound v n m r = (sheet : Sheet) (set : List Configuration) → SetReady sheet set v n m → suc r < length (rounds sheet set)

-- No more than `limit` rounds were made: r is the result's round, or the limit where the result's comes later; `last` says which.
pub record RoundReached (v : List ℕ) (n m limit r : ℕ) (last : Bool) : Type 0 where
  pub within : r ≤ limit
  pub result : last ≡ true → LastRound v n m r
  pub later : last ≡ false → (r ≡ limit) × LaterRound v n m r

-- with as many rounds as members allowed the result's is reached
pub reached_last : {v : List ℕ} {n m : ℕ} {w : List ℕ} {r count : ℕ} {last : Bool} → Refined v n m w r count → RoundReached v n m n r last
    → LastRound v n m r
reached_last {v} {n} {m} {r = r} {last = last} R K = go (tested last)
  where
    go : Tested last → LastRound v n m r
    go (passes e) = K.result e
    go (fails e) = absurd (omega (arith, R.bounds, (K.later e).0))

-- nothing but the work places is changed
pub refined_outside : {v : List ℕ} {n m : ℕ} {w : List ℕ} {r count : ℕ} → Refined v n m w r count → SameOutside 0 work_end v w
refined_outside {v} {w = w} R = record { long = R.long; at = λ k o. side k o }
  where
    side : (k : ℕ) → (k < 0) ⊎ (work_end ≤ k) → get_or w k 0 ≡ get_or v k 0
    side k (inl h) = absurd (omega arith)
    side k (inr h) = R.at_end k h

-- ---- what holds after each round
-- the member at place i and the chosen one of its class are ready in the present classes, and have the same lines
pub record AtRest (sheet : Sheet) (set : List Configuration) (w ws : List ℕ) (width n i : ℕ) : Type 0 where
  pub own : LinesKept sheet set (classes_in w n) w ws width n i
  pub chosen : LinesKept sheet set (classes_in w n) w ws width n (chosen_in w (class_in w i))
  pub alike : lines_held w i ≡ lines_held w (chosen_in w (class_in w i))

-- the classes of round r of a set, and the dominating moves kept for it; a member is listed or at rest; each round up to r had a birth
pub record RoundNow (sheet : Sheet) (set : List Configuration) (w ws : List ℕ) (width n : ℕ) (list : List ℕ) (k r count : ℕ) : Type 0 where
  pub present : PresentHeld sheet set w count r
  pub kept : DominatorsKept sheet set w n (classes_in w n)
  pub rest : (i : ℕ) → i < n → InList list k i ⊎ AtRest sheet set w ws width n i
  pub births : (q : ℕ) → q < r → (c : ℕ) × (c < count) × (born_in w c ≡ suc q)

pub record Refining (v : List ℕ) (n m : ℕ) (w ws : List ℕ) (width : ℕ) (list : List ℕ) (k r count : ℕ) : Type 0 where
  pub same_set : SameSet v w
  pub at_end : (k : ℕ) → work_end ≤ k → get_or w k 0 ≡ get_or v k 0
  pub classed : Classed w n count
  pub listed : ListFits n list k
  pub early : r < count
  pub now : (sheet : Sheet) (set : List Configuration) → SetReady sheet set v n m → RoundNow sheet set w ws width n list k r count

pub ready_same : {sheet : Sheet} {set : List Configuration} {v w : List ℕ} {n m : ℕ} → SetReady sheet set v n m → SameSet v w
    → SetReady sheet set w n m
ready_same {sheet} {set} {v} {w} {n} {m} R s = record {
  held = held_same sheet set v w n m R.held s;
  wf = R.wf;
  closed = R.closed;
  ascends = R.ascends;
  some = R.some;
}

-- the rounds stay where neither the set nor the classes and births change, whichever members are chosen
pub rounds_held_same : {sheet : Sheet} {set : List Configuration} {v w : List ℕ} {n m r count : ℕ} → RoundsHeld sheet set v n m r count
    → SameSet v w → ((k : ℕ) → classes_at ≤ k → k < chosen_at → get_or w k 0 ≡ get_or v k 0) → Classed w n count
    → RoundsHeld sheet set w n m r count
rounds_held_same {sheet} {set} {v} {w} {n} {m} {r} {count} H s h C =
    let few : n ≤ member_room = H.ready.held.few.0 in
    let le : count ≤ n = classed_count H.classed in
    let e : classes_in w n ≡ classes_in v n =
    tabulate_same (class_in w) (class_in v) n (λ i l. h (classes_at + i) (omega arith) (omega arith)) in record {
      ready = ready_same H.ready s;
      present = present_alike (λ (i : ℕ). i < length set) (TogetherHeld sheet set) (from_in_lem v) (born_in v) (from_in_lem w) (born_in w) count r
          (λ i. get_or (classes_in v n) i 0) (λ i. get_or (classes_in w n) i 0) H.present
          (λ c l. ap (λ (x : ℕ). x / 65536) (h (births_at + c) (omega arith) (omega arith)))
          (λ c l. ap (λ (x : ℕ). x % 65536) (h (births_at + c) (omega arith) (omega arith)))
          (λ i l. ap (λ (z : List ℕ). get_or z i 0) e);
      classed = C;
    }

-- what is kept stays where neither it nor the set changes
kept_moved : (sheet : Sheet) (set : List Configuration) (v w : List ℕ) (n m : ℕ) (numbers : List ℕ) → SetHeld sheet set v n m → SameSet v w
    → ((k : ℕ) → k < spans_at → get_or w k 0 ≡ get_or v k 0) → DominatorsKept sheet set v n numbers → DominatorsKept sheet set w n numbers
kept_moved sheet set v w n m numbers H s low D = record { at = go }
  where
    go : (i j : ℕ) → i < n → j < move_total w i → MoveKept sheet set numbers (member_at w i) j (get_or w (dominators_at + first_move w i + j) 0)
    go i j l h =
        let b : j < move_total v i = omega (arith, held_total_same sheet set v w n m H s i l) in
        let e : get_or w (dominators_at + first_move w i + j) 0 ≡ get_or v (dominators_at + first_move v i + j) 0 =
        ap (λ (f : ℕ). get_or w (dominators_at + f + j) 0) (held_first_same sheet set v w n m H s i l)
        ∙ low (dominators_at + first_move v i + j) (omega (arith, H.spans i l, H.few.1)) in
        subst (λ (p : Configuration). MoveKept sheet set numbers p j (get_or w (dominators_at + first_move w i + j) 0))
        (sym (held_member_same sheet set v w n m H s i l))
        (subst (MoveKept sheet set numbers (member_at v i) j) (sym e) (D.at i j l b))

-- ---- round 0
-- one that stands before another has no higher store
before_store : (p q : Configuration) → configuration_before p q ≡ true → p.store ≤ q.store
before_store p q h = go (tested (eqb p.store q.store))
  where
    go : Tested (eqb p.store q.store) → p.store ≤ q.store
    go (passes e) = omega (arith, eqb-true p.store q.store e)
    go (fails e) =
        let l : p.store < q.store = ltb-true p.store q.store (rw e at h) in
        omega arith

stores_rise : (sheet : Sheet) (set : List Configuration) (w : List ℕ) (n m : ℕ) → SetReady sheet set w n m → StoresRise w n
stores_rise sheet set w n m R j k h l = go (tested (eqb j k))
  where
    go : Tested (eqb j k) → store_in w j ≤ store_in w k
    go (passes e) = omega (arith, ap (store_in w) (eqb-true j k e))
    go (fails e) =
        before_store (member_at w j) (member_at w k)
        (ascends_at configuration_order (member_at w) n (subst (Ascends configuration_before) (sym R.held.members) R.ascends) j k
        (omega (arith, eqb-false j k e)) l)

module _ (v : List ℕ) (n m : ℕ) (a : List ℕ) (f : Forgotten v m a) (b : List ℕ) (count : ℕ) (F : Founding a n b count)
    (d awake : List ℕ) (C : Rechosen b n awake n d) (ws : List ℕ) (width : ℕ) (list : List ℕ) (all : (j : ℕ) → j < n → get_or list j 0 ≡ j) where
  first_now : (sheet : Sheet) (set : List Configuration) → SetReady sheet set a n m → n ≤ member_room → DominatorsKept sheet set a n (classes_in d n)
      → RoundNow sheet set d ws width n list n 0 count
  first_now sheet set R few D = record {
    present = present_founders (λ (i : ℕ). i < length set) (TogetherHeld sheet set) (from_in_lem d) (born_in d) count (class_in d)
        (λ c l. ap (λ (x : ℕ). x % 65536) (birth c l ∙ F.founders c l))
        (λ i l. omega (arith, class i (omega (arith, size)), F.classed.known i (omega (arith, size))))
        (λ c l. let x = chosen_classed C (λ i p. p.0) few F.classed in
        (chosen_in d c, omega (arith, size, x.chosen_in_lem c l), x.chosen_of c l))
        (λ i j li lj. (
          (λ e. store i (omega (arith, size))
              ∙ F.same_store i j (omega (arith, size)) (omega (arith, size)) (sym (class i (omega (arith, size))) ∙ e ∙ class j (omega (arith, size)))
              ∙ sym (store j (omega (arith, size)))),
          (λ e. class i (omega (arith, size))
              ∙ F.same_class (stores_rise sheet set a n m R) i j (omega (arith, size)) (omega (arith, size))
              (sym (store i (omega (arith, size))) ∙ e ∙ store j (omega (arith, size)))
              ∙ sym (class j (omega (arith, size)))),
        ));
    kept = kept_moved sheet set a d n m (classes_in d n) R.held
        (same_set_trans (same_set_high (omega arith) F.only) (same_set_high (omega arith) C.only))
        (λ k l. C.only.at k (inl (omega arith)) ∙ F.only.at k (inl (omega arith))) D;
    rest = λ i l. inl (i, l, all i l);
    births = λ q l. absurd (omega arith);
  }
    where
      size : length set ≡ n
      size = held_count_lem sheet set a n m R.held

      class : (i : ℕ) → i < n → class_in d i ≡ class_in b i
      class i l = chosen_class C i (omega arith)

      birth : (c : ℕ) → c < count → get_or d (births_at + c) 0 ≡ get_or b (births_at + c) 0
      birth c l = C.only.at (births_at + c) (inl (omega (arith, F.count_fits)))

      store : (i : ℕ) → i < n → (get_or set i nobody).store ≡ store_in a i
      store i l = ap (λ (p : Configuration). p.store) (held_at sheet set a n m R.held i nobody l)

  pub refining_first : Ready v n m → Refining v n m d ws width list n 0 count
  refining_first Y =
      let low : m ≤ move_room = Y.ready.held.few.1 in
      let few : n ≤ member_room = Y.ready.held.few.0 in
      let s : SameSet v a = same_set_low (omega arith) f.outside in record {
        same_set = same_set_trans s (same_set_trans (same_set_high (omega arith) F.only) (same_set_high (omega arith) C.only));
        at_end = λ k h. C.only.at k (inr (omega arith)) ∙ F.only.at k (inr (omega arith)) ∙ f.outside.at k (inr (omega arith));
        classed = chosen_classed C (λ i p. p.0) few F.classed;
        listed = record {
          few = omega arith;
          below = λ j l. omega (arith, all j l);
          ascends = λ p q l h. omega (arith, all p (omega arith), all q h);
        };
        early = omega (arith, F.classed.known 0 Y.ready.some);
        now = λ sheet set R.
            first_now sheet set (ready_same R s) few (forgotten_held sheet set v a n m (classes_in d n) R.held f).1;
      }

-- the classes of the slice, where they are those of a round
ready_round : {sheet : Sheet} {set : List Configuration} {w : List ℕ} {n m r : ℕ} (R : SetReady sheet set w n m)
    → Sharing sheet R.wf set R.closed (classes_in w n) r → RoundHeld sheet set (classes_in w n) w n m r
ready_round R sharing = record {
  held = R.held;
  wf = R.wf;
  closed = R.closed;
  ascends = R.ascends;
  classes_are = refl;
  sharing = sharing;
}

-- ---- one round more
module _ (v : List ℕ) (n m : ℕ) (w ws : List ℕ) (width : ℕ) (list : List ℕ) (k r count : ℕ) (G : Refining v n m w ws width list k r count) where
  module _ (sheet : Sheet) (set : List Configuration) (R : SetReady sheet set v n m) where
    here : SetReady sheet set w n m
    here = ready_same R G.same_set

    now : RoundNow sheet set w ws width n list k r count
    now = G.now sheet set R

    round_held : RoundHeld sheet set (classes_in w n) w n m r
    round_held = ready_round here (present_round sheet set w n m count r here now.present)

  pub refining_shape : Ready v n m → Shape w n
  refining_shape Y =
      held_shape Y.sheet Y.set w n m (classes_in w n) (here Y.sheet Y.set Y.ready).held
      (λ i l. omega (arith, G.classed.known i l, classed_count G.classed, Y.ready.held.few.0))
      (now Y.sheet Y.set Y.ready).kept

  -- ---- u has the lines of all members
  module _ (u us : List ℕ) (L : SetLined w ws width n list k u us) where
    small : (sheet : Sheet) (set : List Configuration) → SetReady sheet set v n m → (n ≤ member_room) × (count ≤ member_room)
    small sheet set R = (R.held.few.0, omega (arith, R.held.few.0, classed_count G.classed))

    module _ (sheet : Sheet) (set : List Configuration) (R : SetReady sheet set v n m) where
      lined_now : DominatorsKept sheet set u n (classes_in w n)
          × ((i : ℕ) → i < n → InList list k i ⊎ LinesKept sheet set (classes_in w n) w ws width n i
          → LinesKept sheet set (classes_in w n) u us width n i)
      lined_now = let x = L.lines sheet set (classes_in w n) m r (round_held sheet set R) (now sheet set R).kept in (x.0, x.1)

      ready_now : (i : ℕ) → i < n → LinesKept sheet set (classes_in w n) u us width n i
      ready_now i l = go ((now sheet set R).rest i l)
        where
          go : InList list k i ⊎ AtRest sheet set w ws width n i → LinesKept sheet set (classes_in w n) u us width n i
          go (inl x) = lined_now.1 i l (inl x)
          go (inr x) = lined_now.1 i l (inr x.own)

      member_same : (i : ℕ) → i < n → member_at u i ≡ member_at w i
      member_same i l = held_member_same sheet set w u n m (here sheet set R).held (lined_set L.only) i l

      -- a member that was ready has the lines it had
      lines_left : (i : ℕ) → i < n → LinesKept sheet set (classes_in w n) w ws width n i → lines_held u i ≡ lines_held w i
      lines_left i l x =
          (ready_now i l).lined.lines ∙ ap (lines_of sheet set (classes_in w n)) (member_same i l) ∙ sym x.lined.lines

      -- a member that is not listed has the lines of the chosen one of its class
      quiet : (i : ℕ) → i < n → InList list k i ⊎ (lines_held u i ≡ lines_held u (chosen_in u (class_in u i)))
      quiet i l = go ((now sheet set R).rest i l)
        where
          b : class_in w i < count
          b = G.classed.known i l

          f : chosen_in u (class_in u i) ≡ chosen_in w (class_in w i)
          f =
              ap (chosen_in u) (lined_class L.only i (omega (arith, (small sheet set R).0)))
              ∙ L.only.at_classes (chosen_at + class_in w i) (omega arith) (omega (arith, b, (small sheet set R).1))

          go : InList list k i ⊎ AtRest sheet set w ws width n i → InList list k i ⊎ (lines_held u i ≡ lines_held u (chosen_in u (class_in u i)))
          go (inl x) = inl x
          go (inr x) =
              inr (lines_left i l x.own ∙ x.alike
              ∙ sym (ap (lines_held u) f ∙ lines_left (chosen_in w (class_in w i)) (G.classed.chosen_in_lem (class_in w i) b) x.chosen))

    birth_same : count ≤ member_room → (c : ℕ) → c < count → get_or u (births_at + c) 0 ≡ get_or w (births_at + c) 0
    birth_same h c l = L.only.at_classes (births_at + c) (omega arith) (omega arith)

    stage : (sheet : Sheet) (set : List Configuration) → SetReady sheet set v n m → Stage sheet set u n m r count
    stage sheet set R =
        let z = small sheet set R in record {
          ready = ready_same (here sheet set R) (lined_set L.only);
          present = present_held_same sheet set w u count r (now sheet set R).present (birth_same z.1)
              (λ i l. L.only.at_classes (classes_at + i) (omega arith) (omega (arith, z.0, held_count_lem sheet set v n m R.held)));
          classed = classed_same z.0 G.classed L.only.at_classes;
          lined = λ i l.
              subst (λ (c : List ℕ). MemberLined sheet set c u i) (sym (lined_classes L.only n z.0)) (ready_now sheet set R i l).lined;
        }

    pub refining_classed : Ready v n m → Classed u n count
    refining_classed Y = (stage Y.sheet Y.set Y.ready).classed

    pub refining_lines : Ready v n m → (j : ℕ) → j < n → first_move u j + line_total u j ≤ move_room
    refining_lines Y j l =
        let S = stage Y.sheet Y.set Y.ready in
        omega (arith, (S.lined j l).few, S.ready.held.spans j l, S.ready.held.few.1)

    -- ---- x has their next classes
    module _ (x : List ℕ) (next : ℕ) (Z : Splitting u n (r + 1) count x next (InList list k)) where
      same_here : SameSet v x
      same_here = same_set_trans (same_set_trans G.same_set (lined_set L.only)) (same_set_high (omega arith) Z.only)

      end_here : (k : ℕ) → work_end ≤ k → get_or x k 0 ≡ get_or v k 0
      end_here k h = Z.only.at k (inr (omega arith)) ∙ L.only.at_end k h ∙ G.at_end k h

      back_set : (y : List ℕ) → Restored x count n y → SameSet v y
      back_set y B = same_set_trans same_here (same_set_high (omega arith) B.only)

      module _ (sheet : Sheet) (set : List Configuration) (R : SetReady sheet set v n m) where
        S : Stage sheet set u n m r count
        S = stage sheet set R

        A : Splitting u n (r + 1) count x next (λ i. i < n)
        A = splitting_all Z (quiet sheet set R)

        size : length set ≡ n
        size = held_count_lem sheet set v n m R.held

        old_birth : (c : ℕ) → c < count → born_in x c ≡ born_in w c
        old_birth c l = ap (λ (y : ℕ). y % 65536) (Z.old_births c l ∙ birth_same (small sheet set R).1 c l)

        sharing_here : Sharing sheet R.wf set R.closed (classes_in w n) r
        unfolding here ready_same
        sharing_here = present_round sheet set w n m count r (here sheet set R) (now sheet set R).present

        -- each round up to the one after r had a birth, where a class was split
        births_here : count < next → (q : ℕ) → q < r + 1 → (c : ℕ) × (c < next) × (born_in x c ≡ suc q)
        births_here more q l = go (tested (eqb q r))
          where
            go : Tested (eqb q r) → (c : ℕ) × (c < next) × (born_in x c ≡ suc q)
            go (passes e) = (count, more, (Z.new_births count (omega arith) more).0 ∙ add-one r ∙ ap suc (sym (eqb-true q r e)))
            go (fails e) =
                let z = (now sheet set R).births q (omega (arith, eqb-false q r e)) in
                (z.0, omega (arith, z.1), old_birth z.0 z.1 ∙ z.2)

        -- ---- y has other chosen members, and lists those whose lines can change
        module _ (y next-list : List ℕ) (total : ℕ) (N : NextListed x us width n count list k y next-list total) (more : count < next) where
          same_there : SameSet v y
          same_there = same_set_trans same_here (same_set_high (omega arith) N.only)

          there : SetReady sheet set y n m
          there = ready_same R same_there

          few : n ≤ member_room
          few = (small sheet set R).0

          class_there : (i : ℕ) → i < n → class_in y i ≡ class_in x i
          class_there i l = N.only.at (classes_at + i) (inl (omega (arith, few)))

          next_few : next ≤ member_room
          next_few = omega (arith, classed_count Z.classed, few)

          birth_there : (c : ℕ) → c < next → get_or y (births_at + c) 0 ≡ get_or x (births_at + c) 0
          birth_there c l = N.only.at (births_at + c) (inl (omega (arith, next_few)))

          present_there : PresentHeld sheet set y next (r + 1)
          present_there =
              present_held_same sheet set x y next (r + 1) (next_present S A) birth_there (λ i l. class_there i (omega (arith, size)))

          sharing_there : Sharing sheet R.wf set R.closed (classes_in y n) (r + 1)
          unfolding there ready_same
          sharing_there = present_round sheet set y n m next (r + 1) there present_there

          -- what stands below the classes is as in u
          low : (j : ℕ) → j < classes_at → get_or y j 0 ≡ get_or u j 0
          low j l = N.only.at j (inl (omega arith)) ∙ Z.only.at j (inl (omega arith))

          high : (j : ℕ) → lines_at ≤ j → get_or y j 0 ≡ get_or u j 0
          high j l = N.only.at j (inr (omega arith)) ∙ Z.only.at j (inr (omega arith))

          set_there : SameSet u y
          set_there = same_set_trans (same_set_high (omega arith) Z.only) (same_set_high (omega arith) N.only)

          -- what was kept in the round before stands in y
          kept_before : DominatorsKept sheet set y n (classes_in w n)
          kept_before =
              kept_moved sheet set u y n m (classes_in w n) S.ready.held set_there (λ j l. low j (omega arith)) (lined_now sheet set R).0

          kept_there : DominatorsKept sheet set y n (classes_in y n)
          kept_there =
              dominators_later sheet set y n m there.held R.wf R.closed r (r + 1) (omega arith) (classes_in w n)
              (classes_in y n) sharing_here sharing_there kept_before

          came : SplitFrom set (classes_in w n) (classes_in y n) y n count
          came = record {
            finer = λ p q mp mq e.
                sharing_here.from_round p q mp mq
                (round_earlier (transitions sheet) (r + 1) r p q (omega arith) (sharing_there.to_round p q mp mq e));
            same = λ i l c. tabulate_at (class_in w) n i 0 l ∙ sym (class_old i l c ∙ lined_class L.only i (omega (arith, few)));
          }
            where
              class_old : (i : ℕ) → i < n → class_in y i < count → class_in y i ≡ class_in u i
              class_old i l c = class_there i l ∙ Z.kept i l (omega (arith, class_there i l))

          round_there : RoundHeld sheet set (classes_in y n) y n m (r + 1)
          unfolding there ready_same
          round_there = ready_round there sharing_there

          -- ---- a member that is not listed
          module _ (p : ℕ) (l : p < n) (d : InList next-list total p → ⊥) where
            was : LinesKept sheet set (classes_in w n) u us width n p
            was = ready_now sheet set R p l

            first_same : first_move y p ≡ first_move u p
            first_same = held_first_same sheet set u y n m S.ready.held set_there p l

            total_same : move_total y p ≡ move_total u p
            total_same = held_total_same sheet set u y n m S.ready.held set_there p l

            member_there : member_at y p ≡ member_at u p
            member_there = held_member_same sheet set u y n m S.ready.held set_there p l

            -- one that it looks at has an old class
            seen_old : (t : ℕ) → t < n → InSet us (t * width) p → class_in y t < count
            seen_old t h s = go (tested (ltb (class_in y t) count))
              where
                go : Tested (ltb (class_in y t) count) → class_in y t < count
                go (passes e) = ltb-true (class_in y t) count e
                go (fails e) =
                    let b : count ≤ class_in x t = omega (arith, ltb-false (class_in y t) count e, class_there t h) in
                    absurd (d (N.woken t (Z.moved t h b) b p l s))

            module _ (j : ℕ) (b : j < move_total y p) where
              c : j < move_total u p
              c = omega (arith, total_same)

              span : first_move u p + j < move_room
              span = omega (arith, c, S.ready.held.spans p l, S.ready.held.few.1)

              kept_same : kept_at y (first_move u p) j ≡ kept_at u (first_move u p) j
              kept_same = low (dominators_at + first_move u p + j) (omega (arith, span))

              target_same : target_at y (first_move u p) j ≡ target_at u (first_move u p) j
              target_same = ap (λ (z : ℕ). z % 65536) (low (moves_at + first_move u p + j) (omega (arith, span)))

              target_in_lem : target_at y (first_move u p) j < n
              target_in_lem =
                  subst (λ (a : ℕ). target_at y a j < n) first_same
                  (there.held.targets p (get_or y (moves_at + first_move y p + j) 0) l (number_in sheet set y n m there.held p j l b))

              kept_in : (kept_at y (first_move u p) j % 65536 ≡ 65535 → ⊥) → kept_at y (first_move u p) j % 65536 < n
              kept_in =
                  subst (λ (a : ℕ). (kept_at y a j % 65536 ≡ 65535 → ⊥) → kept_at y a j % 65536 < n) first_same
                  (λ z. omega (arith, ((kept_there.at p j l b).shown z).1.inside, size))

              settled_there : Settled y (first_move u p) j count
              settled_there =
                  let s = was.watched j c in
                  stood_settled u y n (first_move u p) j count kept_same target_same target_in_lem kept_in
                  (seen_old (target_at y (first_move u p) j) target_in_lem
                  (subst (λ (t : ℕ). InSet us (t * width) p) (sym target_same) s.0))
                  (λ q. seen_old (kept_at y (first_move u p) j % 65536) q
                  (subst (λ (t : ℕ). InSet us (t % 65536 * width) p) (sym kept_same)
                  (s.1 (subst (λ (t : ℕ). t % 65536 < n) kept_same q))))
                  (λ i h z. class_there i h ∙ Z.kept i h (omega (arith, class_there i h)))
                  (was.stands j c)

            held_there : MemberHeld sheet set (classes_in y n) (member_at y p) y n m (r + 1) p (first_move y p) (move_total y p)
            held_there = record { round = round_there; inside = l; member_is = refl; first_is = refl; total_is = refl }

            settled_own : (j : ℕ) → j < move_total y p → Settled y (first_move y p) j count
            settled_own j b = subst (λ (a : ℕ). Settled y a j count) (sym first_same) (settled_there j b)

            lines_there : lines_held y p ≡ lines_held u p
            lines_there =
                ap₂ (λ (a s : ℕ). numbers_in y (lines_at + a) (lines_at + a + s)) first_same (low (line_totals_at + p) (omega (arith, few)))
                ∙ numbers_same u y (lines_at + first_move u p) (lines_at + first_move u p + line_total u p) set_there.long
                (λ j a b. high j (omega arith))

            ready_there : LinesKept sheet set (classes_in y n) y us width n p
            ready_there = record {
              lined = record {
                few = omega (arith, was.lined.few, total_same, low (line_totals_at + p) (omega (arith, few)));
                lines = lines_there ∙ was.lined.lines ∙ ap (lines_of sheet set (classes_in w n)) (sym member_there)
                    ∙ settled_lines held_there (classes_in w n) count came (λ j b. kept_there.at p j l b) (λ j b. kept_before.at p j l b)
                    settled_own;
              };
              stands = λ j b. settled_stands y (first_move y p) j count (settled_own j b);
              watched = λ j b.
                  let s = was.watched j (c j b) in
                  subst (λ (a : ℕ). MoveWatched y us width n a j p) (sym first_same) (
                    subst (λ (t : ℕ). InSet us (t * width) p) (sym (target_same j b)) s.0,
                    (λ q. subst (λ (t : ℕ). InSet us (t % 65536 * width) p) (sym (kept_same j b))
                        (s.1 (subst (λ (t : ℕ). t % 65536 < n) (kept_same j b) q))),
                  );
            }

          rest_there : (i : ℕ) → i < n → InList next-list total i ⊎ AtRest sheet set y us width n i
          rest_there i l = go (N.rest next Z.classed i l)
            where
              f : ℕ
              f = chosen_in y (class_in x i)

              is : chosen_in y (class_in y i) ≡ chosen_in y (class_in x i)
              is = ap (chosen_in y) (class_there i l)

              go : InList next-list total i
                  ⊎ ((InList next-list total i → ⊥) × (chosen_in y (class_in x i) < n) × (InList next-list total (chosen_in y (class_in x i)) → ⊥)
                  × (class_in x (chosen_in y (class_in x i)) ≡ class_in x i))
                  → InList next-list total i ⊎ AtRest sheet set y us width n i
              go (inl z) = inl z
              go (inr z) =
                  inr (record {
                    own = ready_there i l z.0;
                    chosen = subst (LinesKept sheet set (classes_in y n) y us width n) (sym is)
                        (ready_there (chosen_in y (class_in x i)) z.1 z.2);
                    alike = lines_there i l z.0 ∙ A.alike i l l
                        ∙ ap (λ (c : ℕ). lines_held u (chosen_in x c)) (sym z.3)
                        ∙ sym (A.alike (chosen_in y (class_in x i)) z.1 z.1)
                        ∙ sym (ap (lines_held y) is ∙ lines_there (chosen_in y (class_in x i)) z.1 z.2);
                  })

          now_next : RoundNow sheet set y us width n next-list total (r + 1) next
          now_next = record {
            present = present_there;
            kept = kept_there;
            rest = rest_there;
            births = λ q l.
                let z = births_here more q l in (z.0, z.1, ap (λ (a : ℕ). a % 65536) (birth_there z.0 z.1) ∙ z.2);
          }

        -- ---- no class was split
        module _ (same : next ≡ count) where
          class_same : (i : ℕ) → i < n → class_in x i ≡ class_in u i
          class_same i l = Z.kept i l (omega (arith, Z.classed.known i l))

          present_last : PresentHeld sheet set x count r
          present_last =
              present_held_same sheet set u x count r S.present Z.old_births (λ i l. class_same i (omega (arith, size)))

          ready_last : SetReady sheet set x n m
          ready_last = ready_same R same_here

          listed : PresentAt sheet set nobody (from_in_lem x) (born_in x) count r (classes_in x n)
          listed = present_listed sheet set x n m count r ready_last.held present_last

          place : (p : Configuration) → Memᴰ p set → get_or set (place_of set p) nobody ≡ p
          place p k = get_d_any set (place_of set p) nobody p (place_of_lt set p k) ∙ place_of_at set p k

          stable : (p q : Configuration) → Memᴰ p set → Memᴰ q set
              → Round (transitions sheet) r p q → Round (transitions sheet) (suc r) p q
          stable p q kp kq h =
              let i : ℕ = place_of set p in
              let j : ℕ = place_of set q in
              let li : i < length set = place_of_lt set p kp in
              let lj : j < length set = place_of_lt set q kq in
              let t : TogetherHeld sheet set r i j =
              subst (λ (y : Configuration). Round (transitions sheet) r (get_or set i nobody) y) (sym (place q kq))
              (subst (λ (y : Configuration). Round (transitions sheet) r y q) (sym (place p kp)) h) in
              let e : class_in x i ≡ class_in x j =
              (present_now (λ (i : ℕ). i < length set) (TogetherHeld sheet set) (from_in_lem x) (born_in x) count r
              (class_in x) present_last i j li lj).1 t in
              let g : TogetherHeld sheet set (suc r) i j = (next_together S A i j (omega (arith, size)) (omega (arith, size))).0 e in
              subst (λ (y : Configuration). Round (transitions sheet) (suc r) p y) (place q kq)
              (subst (λ (y : Configuration). Round (transitions sheet) (suc r) y (get_or set j nobody)) (place p kp) g)

          held_last : Classed x n count → RoundsHeld sheet set x n m r count
          held_last C = record { ready = ready_last; present = listed; classed = C }

          result_here : length (rounds sheet set) ≡ suc r
          result_here =
              present-result sheet set R.wf R.closed (from_in_lem x) (born_in x) count r (class_of set (classes_in x n))
              (places_present sheet set nobody R.wf (from_in_lem x) (born_in x) count r (classes_in x n) listed)
              (classes_in x n) (λ p k. refl) (omega (arith, size, R.some)) stable
              (λ q l. let y = (now sheet set R).births q l in (y.0, y.1, old_birth y.0 y.1 ∙ y.2))

        -- ---- y has the classes from before the split again
        module _ (y : List ℕ) (B : Restored x count n y) where
          back_ready : SetReady sheet set y n m
          back_ready = ready_same R (back_set y B)

          back_birth : (c : ℕ) → c < count → get_or y (births_at + c) 0 ≡ get_or u (births_at + c) 0
          back_birth c l = B.only.at (births_at + c) (inr (omega arith)) ∙ Z.old_births c l

          back_class : (i : ℕ) → i < n → class_in y i ≡ class_in u i
          back_class i l = B.done i l ∙ go (tested (ltb (class_in x i) count))
            where
              go : Tested (ltb (class_in x i) count) → former_in x count (class_in x i) ≡ class_in u i
              go (passes e) = let b = ltb-true (class_in x i) count e in former_own x count (class_in x i) b ∙ Z.kept i l b
              go (fails e) = let b = ltb-false (class_in x i) count e in former_from x count (class_in x i) b ∙ Z.came i l b

          held_back : Classed y n count → RoundsHeld sheet set y n m r count
          held_back C =
              record {
                ready = back_ready;
                present = present_listed sheet set y n m count r back_ready.held
                    (present_held_same sheet set u y count r S.present back_birth (λ i l. back_class i (omega (arith, size))));
                classed = C;
              }

        -- the split was a birth in the round after r, so the result's round is not r
        result_later : count < next → suc r < length (rounds sheet set)
        result_later more =
            let listed : PresentAt sheet set nobody (from_in_lem x) (born_in x) next (r + 1) (classes_in x n) =
            present_listed sheet set x n m next (r + 1) (ready_same R same_here).held (next_present S A) in
            omega (
              arith,
              present_early sheet set R.wf R.closed (from_in_lem x) (born_in x) next (r + 1) (class_of set (classes_in x n))
                  (places_present sheet set nobody R.wf (from_in_lem x) (born_in x) next (r + 1) (classes_in x n) listed)
                  (classes_in x n) (λ p k. refl) (omega (arith, size, R.some)) (births_here more),
            )

      pub refining_next : (next ≡ count → ⊥) → (y next-list : List ℕ) (total : ℕ) → NextListed x us width n count list k y next-list total
          → Refining v n m y us width next-list total (r + 1) next
      refining_next d y next-list total N =
          let more : count < next = omega (arith, Z.more) in record {
            same_set = same_set_trans same_here (same_set_high (omega arith) N.only);
            at_end = λ k h. N.only.at k (inr (omega arith)) ∙ end_here k h;
            classed = N.classed next Z.classed;
            listed = N.fits;
            early = omega (arith, G.early);
            now = λ sheet set R. now_next sheet set R y next-list total N more;
          }

      pub refining_last : next ≡ count → Refined v n m x r count × LastRound v n m r
      refining_last e =
          let C : Classed x n count = subst (Classed x n) e Z.classed in (
            record {
              long = same_here.long;
              at_end = end_here;
              same_set = same_here;
              classed = C;
              bounds = (G.early, classed_count C);
              rounds_held = λ sheet set R. held_last sheet set R e C;
            },
            (λ sheet set R. result_here sheet set R e),
          )

      -- the classes from before the split, where it is one round too many
      pub refining_stopped : (next ≡ count → ⊥) → (y : List ℕ) → Restored x count n y → Refined v n m y r count × LaterRound v n m r
      refining_stopped d y B =
          let C : Classed y n count = record { known = known; chosen_in_lem = λ c l. (chosen c l).0; chosen_of = λ c l. (chosen c l).1 } in (
            record {
              long = (back_set y B).long;
              at_end = λ k h. B.only.at k (inr (omega arith)) ∙ end_here k h;
              same_set = back_set y B;
              classed = C;
              bounds = (G.early, classed_count C);
              rounds_held = λ sheet set R. held_back sheet set R y B C;
            },
            (λ sheet set R. result_later sheet set R (omega (arith, Z.more))),
          )
        where
          known : (i : ℕ) → i < n → class_in y i < count
          known i l = go (tested (ltb (class_in x i) count))
            where
              go : Tested (ltb (class_in x i) count) → class_in y i < count
              go (passes e) = let b = ltb-true (class_in x i) count e in omega (arith, B.done i l, former_own x count (class_in x i) b)
              go (fails e) =
                  let b = ltb-false (class_in x i) count e in
                  omega (arith, B.done i l, former_from x count (class_in x i) b, (Z.new_births (class_in x i) b (Z.classed.known i l)).1)

          chosen : (c : ℕ) → c < count → (chosen_in y c < n) × (class_in y (chosen_in y c) ≡ c)
          chosen c l =
              let e : chosen_in y c ≡ chosen_in x c = B.only.at (chosen_at + c) (inr (omega arith)) in
              let there : chosen_in x c < n = Z.classed.chosen_in_lem c (omega (arith, Z.more)) in
              let own : class_in x (chosen_in x c) ≡ c = Z.classed.chosen_of c (omega (arith, Z.more)) in (
                omega (arith, e),
                ap (class_in y) e ∙ B.done (chosen_in x c) there ∙ ap (former_in x count) own ∙ former_own x count c l,
              )
