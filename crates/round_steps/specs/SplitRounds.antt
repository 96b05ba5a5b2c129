-- One round, member by member: those that are done have their classes of the next round, the others still have the present ones.
use Rattle.std.specs.Prelude.{◌≡◌, refl, ◌⊎◌, true, false, List, ℕ, ◌+◌, ◌*◌, ◌/◌, ◌%◌, ◌≤◌, ◌<◌, length, get_or, set, eqb, ltb}
use Rattle.std.proofs.Common.{sym, ap, ap₂, ◌∙◌, subst, inl, inr, arith, add-one, length-set, get_or-set_same, get_or-set_other, eqb-true, ltb-true, ltb-false}
use Rattle.std.proofs.lemmas.Bool.{eqb-false}
use Rattle.work_layout.specs.TestLaws.{Tested, tested, passes, fails}
use Rattle.work_layout.specs.Frames.{SameOutside, outside_same, outside_set, outside_again}
use Rattle.work_layout.specs.NumberLists.{numbers_in}
use Rattle.work_layout.specs.NumberLaws.{numbers_outside}
use Rattle.work_layout.specs.SetLayout.{first_move}
use Rattle.class_splits.specs.MemberLinesFound.{line_total}
use Rattle.class_splits.specs.ClassedPlaces.{chosen_in, Classed, classed_count, classed_spare, classed_join, classed_new}
use Rattle.class_splits.specs.LineTests.{lines_held, PartFits}
use Rattle.class_splits.specs.MemberSplits.{MemberReady, MemberSplit, keeps, joins, begins}
use Rattle.work_layout.specs.WorkLayout.{work_end, spans_at, line_totals_at, classes_at, births_at, chosen_at, lines_at, member_room, move_room}
use Rattle.work_layout.specs.ClassLayout.{class_in, born_in, from_in_lem}

-- from v, with `old` classes, on: w has `count` classes, and the members that are done have theirs
pub record Splitting (v : List ℕ) (n round old : ℕ) (w : List ℕ) (count : ℕ) (Done : ℕ → Type 0) : Type 0 where
  pub only : SameOutside classes_at lines_at v w
  pub classed : Classed w n count
  pub more : old ≤ count
  pub old_births : (c : ℕ) → c < old → get_or w (births_at + c) 0 ≡ get_or v (births_at + c) 0
  pub new_births : (c : ℕ) → old ≤ c → c < count → (born_in w c ≡ round) × (from_in_lem w c < old)
  pub old_chosen : (c : ℕ) → c < old → chosen_in w c ≡ chosen_in v c
  -- an old number stands for the class itself, a new one for a class that came from it
  pub kept : (i : ℕ) → i < n → class_in w i < old → class_in w i ≡ class_in v i
  pub came : (i : ℕ) → i < n → old ≤ class_in w i → from_in_lem w (class_in w i) ≡ class_in v i
  -- only a member that is done has a new one
  pub moved : (i : ℕ) → i < n → old ≤ class_in w i → Done i
  -- it has the lines of its class's chosen member, and classes that came from one class have others
  pub alike : (i : ℕ) → i < n → Done i → lines_held v i ≡ lines_held v (chosen_in w (class_in w i))
  pub apart_old : (c : ℕ) → old ≤ c → c < count → lines_held v (chosen_in w c) ≡ lines_held v (chosen_in w (from_in_lem w c)) → ⊥
  pub apart_new : (c d : ℕ) → old ≤ c → c < count → old ≤ d → d < count → from_in_lem w c ≡ from_in_lem w d
      → lines_held v (chosen_in w c) ≡ lines_held v (chosen_in w d) → c ≡ d

pub splitting_first : (v : List ℕ) (n round old : ℕ) → Classed v n old → (Done : ℕ → Type 0) → ((i : ℕ) → Done i → ⊥)
    → Splitting v n round old v old Done
splitting_first v n round old C Done none = record {
  only = outside_same classes_at lines_at v;
  classed = C;
  more = omega arith;
  old_births = λ c l. refl;
  new_births = λ c h l. absurd (omega arith);
  old_chosen = λ c l. refl;
  kept = λ i l h. refl;
  came = λ i l h. absurd (omega (arith, C.known i l));
  moved = λ i l h. absurd (omega (arith, C.known i l));
  alike = λ i l d. absurd (none i d);
  apart_old = λ c h l. absurd (omega arith);
  apart_new = λ c d h l. absurd (omega arith);
}

-- others are done too, where each of them has the lines of its class's chosen member
splitting_done : {v : List ℕ} {n round old : ℕ} {w : List ℕ} {count : ℕ} {Done More : ℕ → Type 0} → Splitting v n round old w count Done
    → ((i : ℕ) → i < n → Done i → More i) → ((i : ℕ) → i < n → More i → lines_held v i ≡ lines_held v (chosen_in w (class_in w i)))
    → Splitting v n round old w count More
splitting_done Z up same = record {
  only = Z.only;
  classed = Z.classed;
  more = Z.more;
  old_births = Z.old_births;
  new_births = Z.new_births;
  old_chosen = Z.old_chosen;
  kept = Z.kept;
  came = Z.came;
  moved = λ i l h. up i l (Z.moved i l h);
  alike = same;
  apart_old = Z.apart_old;
  apart_new = Z.apart_new;
}

-- all are done where each is done or has the lines of its class's chosen member from the start
pub splitting_all : {v : List ℕ} {n round old : ℕ} {w : List ℕ} {count : ℕ} {Done : ℕ → Type 0} → Splitting v n round old w count Done
    → ((i : ℕ) → i < n → Done i ⊎ (lines_held v i ≡ lines_held v (chosen_in v (class_in v i))))
    → Splitting v n round old w count (λ i. i < n)
splitting_all {v} {n} {round} {old} {w} {count} {Done} Z f =
    splitting_done Z (λ i l d. l) (λ i l d. go i l (f i l) (tested (ltb (class_in w i) old)))
  where
    go : (i : ℕ) → i < n → Done i ⊎ (lines_held v i ≡ lines_held v (chosen_in v (class_in v i))) → Tested (ltb (class_in w i) old)
        → lines_held v i ≡ lines_held v (chosen_in w (class_in w i))
    go i l (inl d) t = Z.alike i l d
    go i l (inr e) (passes y) =
        let b : class_in w i < old = ltb-true (class_in w i) old y in
        e ∙ sym (ap (lines_held v) (Z.old_chosen (class_in w i) b ∙ ap (chosen_in v) (Z.kept i l b)))
    go i l (inr e) (fails y) = Z.alike i l (Z.moved i l (ltb-false (class_in w i) old y))

-- what is stored for classes leaves the lines alone
module _ {v w : List ℕ} (s : SameOutside classes_at lines_at v w) where
  pub first_move_same : (i : ℕ) → i < member_room → first_move w i ≡ first_move v i
  first_move_same i h = ap (λ (x : ℕ). x / 65536) (s.at (spans_at + i) (inl (omega arith)))

  pub line_total_same : (i : ℕ) → i < member_room → line_total w i ≡ line_total v i
  line_total_same i h = s.at (line_totals_at + i) (inl (omega arith))

  pub lines_held_same : (i : ℕ) → i < member_room → lines_held w i ≡ lines_held v i
  lines_held_same i h =
      ap₂ (λ (f t : ℕ). numbers_in w (lines_at + f) (lines_at + f + t)) (first_move_same i h) (line_total_same i h)
      ∙ numbers_outside (lines_at + first_move v i) (lines_at + first_move v i + line_total v i) (inr (omega arith)) s

module _ (v : List ℕ) (n round old : ℕ) (w : List ℕ) (count : ℕ) (Done : ℕ → Type 0) (Z : Splitting v n round old w count Done)
    (k : ℕ) (few : n ≤ member_room) (long : work_end ≤ length v) where
  -- what member k needs
  pub splitting_ready : k < n → ((j : ℕ) → j < n → first_move v j + line_total v j ≤ move_room) → MemberReady w k old count
  splitting_ready l f = record {
    n = n;
    inside = l;
    few = few;
    long = omega (arith, Z.only.long);
    more = Z.more;
    classed = Z.classed;
    lines = λ j h. omega (arith, f j h, first_move_same Z.only j (omega arith), line_total_same Z.only j (omega arith));
  }

  -- it is done next
  module _ (l : k < n) (old-class : (i : ℕ) → i < n → class_in v i < old) (new : Done k → ⊥) (More : ℕ → Type 0) (this : More k)
      (up : (i : ℕ) → Done i → More i) (back : (i : ℕ) → More i → (i ≡ k → ⊥) → Done i) where
    long_now : work_end ≤ length w
    long_now = omega (arith, Z.only.long)

    own : class_in w k ≡ class_in v k
    own = go (tested (ltb (class_in w k) old))
      where
        go : Tested (ltb (class_in w k) old) → class_in w k ≡ class_in v k
        go (passes y) = Z.kept k l (ltb-true (class_in w k) old y)
        go (fails y) = absurd (new (Z.moved k l (ltb-false (class_in w k) old y)))

    own_old : class_in w k < old
    own_old = omega (arith, own, old-class k l)

    count_few : count ≤ member_room
    count_few = omega (arith, classed_count Z.classed)

    -- the chosen member of a class
    model : (c : ℕ) → c < count → chosen_in w c < n
    model c h = Z.classed.chosen_in_lem c h

    -- equal lines of places below n, in w and in v
    same : (i j : ℕ) → i < n → j < n → lines_held w i ≡ lines_held w j → lines_held v i ≡ lines_held v j
    same i j hi hj e = sym (lines_held_same Z.only i (omega arith)) ∙ e ∙ lines_held_same Z.only j (omega arith)

    same_back : (i j : ℕ) → i < n → j < n → lines_held v i ≡ lines_held v j → lines_held w i ≡ lines_held w j
    same_back i j hi hj e = lines_held_same Z.only i (omega arith) ∙ e ∙ sym (lines_held_same Z.only j (omega arith))

    -- ---- it keeps its class
    keeps_next : lines_held w k ≡ lines_held w (chosen_in w (class_in w k)) → Splitting v n round old w count More
    keeps_next h = splitting_done Z (λ i a d. up i d) (λ i a d. alike i a d (tested (eqb i k)))
      where
        alike : (i : ℕ) → i < n → More i → Tested (eqb i k) → lines_held v i ≡ lines_held v (chosen_in w (class_in w i))
        alike i a d (passes e) =
            subst (λ (z : ℕ). lines_held v z ≡ lines_held v (chosen_in w (class_in w z))) (sym (eqb-true i k e))
            (same k (chosen_in w (class_in w k)) l (model (class_in w k) (Z.classed.known k l)) h)
        alike i a d (fails e) = Z.alike i a (back i d (eqb-false i k e))

    -- ---- it joins a part
    module _ (d : lines_held w k ≡ lines_held w (chosen_in w (class_in w k)) → ⊥) (p : ℕ) (po : old ≤ p) (pc : p < count)
        (f : PartFits w p (class_in w k) k) where
      abbrev joined : List ℕ
      joined = set w (classes_at + k) p

      joined_here : class_in joined k ≡ p
      joined_here = get_or-set_same w (classes_at + k) p 0 (omega (arith, long_now))

      joined_other : (i : ℕ) → (i ≡ k → ⊥) → class_in joined i ≡ class_in w i
      joined_other i e = get_or-set_other w (classes_at + k) (classes_at + i) p 0 (λ z. e (omega arith))

      joined_birth : (c : ℕ) → c < member_room → get_or joined (births_at + c) 0 ≡ get_or w (births_at + c) 0
      joined_birth c h = get_or-set_other w (classes_at + k) (births_at + c) p 0 (λ z. omega arith)

      joined_from : (c : ℕ) → c < member_room → from_in_lem joined c ≡ from_in_lem w c
      joined_from c h = ap (λ (x : ℕ). x / 65536) (joined_birth c h)

      joined_chosen : (c : ℕ) → chosen_in joined c ≡ chosen_in w c
      joined_chosen c = get_or-set_other w (classes_at + k) (chosen_at + c) p 0 (λ z. omega arith)

      joins_next : Splitting v n round old joined count More
      joins_next = record {
        only = outside_again Z.only (outside_set classes_at lines_at w (classes_at + k) p (omega arith) (omega arith));
        classed = classed_join Z.classed few long_now k l (λ z. d (ap (lines_held w) (sym z))) p pc;
        more = Z.more;
        old_births = λ c a. joined_birth c (omega (arith, Z.more, count_few)) ∙ Z.old_births c a;
        new_births = λ c a b.
            let x = Z.new_births c a b in
            (ap (λ (y : ℕ). y % 65536) (joined_birth c (omega (arith, count_few))) ∙ x.0, omega (arith, joined_from c (omega (arith, count_few)), x.1));
        old_chosen = λ c a. joined_chosen c ∙ Z.old_chosen c a;
        kept = λ i a. kept i a (tested (eqb i k));
        came = λ i a. came i a (tested (eqb i k));
        moved = λ i a b. moved i a b (tested (eqb i k));
        alike = λ i a d. alike i a d (tested (eqb i k));
        apart_old = λ c a b e.
            Z.apart_old c a b (ap (lines_held v) (sym (joined_chosen c)) ∙ e
            ∙ ap (lines_held v) (joined_chosen (from_in_lem joined c) ∙ ap (chosen_in w) (joined_from c (omega (arith, count_few)))));
        apart_new = λ c q a b x y e z.
            Z.apart_new c q a b x y (sym (joined_from c (omega (arith, count_few))) ∙ e ∙ joined_from q (omega (arith, count_few)))
            (ap (lines_held v) (sym (joined_chosen c)) ∙ z ∙ ap (lines_held v) (joined_chosen q));
      }
        where
          kept : (i : ℕ) → i < n → Tested (eqb i k) → class_in joined i < old → class_in joined i ≡ class_in v i
          kept i a (passes e) b = absurd (omega (arith, ap (class_in joined) (eqb-true i k e), joined_here))
          kept i a (fails e) b =
              let x = joined_other i (eqb-false i k e) in
              x ∙ Z.kept i a (omega arith)

          came : (i : ℕ) → i < n → Tested (eqb i k) → old ≤ class_in joined i → from_in_lem joined (class_in joined i) ≡ class_in v i
          came i a (passes e) b =
              ap (λ (z : ℕ). from_in_lem joined (class_in joined z)) (eqb-true i k e) ∙ ap (from_in_lem joined) joined_here
              ∙ joined_from p (omega (arith, count_few)) ∙ f.0 ∙ own ∙ ap (class_in v) (sym (eqb-true i k e))
          came i a (fails e) b =
              let x = joined_other i (eqb-false i k e) in
              let y : class_in w i < count = Z.classed.known i a in
              ap (from_in_lem joined) x ∙ joined_from (class_in w i) (omega (arith, count_few)) ∙ Z.came i a (omega arith)

          moved : (i : ℕ) → i < n → old ≤ class_in joined i → Tested (eqb i k) → More i
          moved i a b (passes e) = subst More (sym (eqb-true i k e)) this
          moved i a b (fails e) = up i (Z.moved i a (omega (arith, joined_other i (eqb-false i k e))))

          alike : (i : ℕ) → i < n → More i → Tested (eqb i k) → lines_held v i ≡ lines_held v (chosen_in joined (class_in joined i))
          alike i a d (passes e) =
              subst (λ (z : ℕ). lines_held v z ≡ lines_held v (chosen_in joined (class_in joined z))) (sym (eqb-true i k e))
              (same k (chosen_in w p) l (model p pc) f.1 ∙ ap (lines_held v) (sym (ap (chosen_in joined) joined_here ∙ joined_chosen p)))
          alike i a d (fails e) =
              Z.alike i a (back i d (eqb-false i k e))
              ∙ ap (lines_held v) (sym (ap (chosen_in joined) (joined_other i (eqb-false i k e)) ∙ joined_chosen (class_in w i)))

    -- ---- it begins a part
    module _ (small : round < 65536) (d : lines_held w k ≡ lines_held w (chosen_in w (class_in w k)) → ⊥)
        (f : (p : ℕ) → old ≤ p → p < count → PartFits w p (class_in w k) k → ⊥)
        (u : List ℕ) (eu : u ≡ set (set (set w (classes_at + k) count) (births_at + count) (class_in w k * 65536 + round)) (chosen_at + count) k) where
      room : count < member_room
      room = omega (arith, classed_spare Z.classed k l (λ z. d (ap (lines_held w) (sym z))))

      is_chosen : (c : ℕ) → c < count → chosen_in w c ≡ k → chosen_in w (class_in w k) ≡ k
      is_chosen c a z = ap (λ (g : ℕ). chosen_in w (class_in w g)) (sym z) ∙ ap (chosen_in w) (Z.classed.chosen_of c a) ∙ z

      abbrev number : ℕ
      number = class_in w k * 65536 + round

      abbrev a1 : List ℕ
      a1 = set w (classes_at + k) count

      abbrev a2 : List ℕ
      a2 = set a1 (births_at + count) number

      begun_here : class_in u k ≡ count
      begun_here =
          ap (λ (g : List ℕ). class_in g k) eu
          ∙ get_or-set_other a2 (chosen_at + count) (classes_at + k) k 0 (λ z. omega arith)
          ∙ get_or-set_other a1 (births_at + count) (classes_at + k) number 0 (λ z. omega arith)
          ∙ get_or-set_same w (classes_at + k) count 0 (omega (arith, long_now))

      chosen_new : chosen_in u count ≡ k
      chosen_new =
          ap (λ (g : List ℕ). chosen_in g count) eu
          ∙ get_or-set_same a2 (chosen_at + count) k 0
          (omega (arith, length-set a1 (births_at + count) number, length-set w (classes_at + k) count, long_now, room))

      begun_other : (i : ℕ) → i < member_room → (i ≡ k → ⊥) → class_in u i ≡ class_in w i
      begun_other i h y =
          ap (λ (g : List ℕ). class_in g i) eu
          ∙ get_or-set_other a2 (chosen_at + count) (classes_at + i) k 0 (λ z. omega arith)
          ∙ get_or-set_other a1 (births_at + count) (classes_at + i) number 0 (λ z. omega arith)
          ∙ get_or-set_other w (classes_at + k) (classes_at + i) count 0 (λ z. y (omega arith))

      begun_chosen : (c : ℕ) → c < count → chosen_in u c ≡ chosen_in w c
      begun_chosen c h =
          ap (λ (g : List ℕ). chosen_in g c) eu
          ∙ get_or-set_other a2 (chosen_at + count) (chosen_at + c) k 0 (λ z. omega arith)
          ∙ get_or-set_other a1 (births_at + count) (chosen_at + c) number 0 (λ z. omega (arith, room))
          ∙ get_or-set_other w (classes_at + k) (chosen_at + c) count 0 (λ z. omega arith)

      begun_birth : (c : ℕ) → c < count → get_or u (births_at + c) 0 ≡ get_or w (births_at + c) 0
      begun_birth c h =
          ap (λ (g : List ℕ). get_or g (births_at + c) 0) eu
          ∙ get_or-set_other a2 (chosen_at + count) (births_at + c) k 0 (λ z. omega (arith, room))
          ∙ get_or-set_other a1 (births_at + count) (births_at + c) number 0 (λ z. omega arith)
          ∙ get_or-set_other w (classes_at + k) (births_at + c) count 0 (λ z. omega arith)

      birth_new : get_or u (births_at + count) 0 ≡ number
      birth_new =
          ap (λ (g : List ℕ). get_or g (births_at + count) 0) eu
          ∙ get_or-set_other a2 (chosen_at + count) (births_at + count) k 0 (λ z. omega (arith, room))
          ∙ get_or-set_same a1 (births_at + count) number 0 (omega (arith, length-set w (classes_at + k) count, long_now, room))

      begun_from : (c : ℕ) → c < count → from_in_lem u c ≡ from_in_lem w c
      begun_from c h = ap (λ (x : ℕ). x / 65536) (begun_birth c h)

      from_new : from_in_lem u count ≡ class_in w k
      from_new = ap (λ (x : ℕ). x / 65536) birth_new ∙ omega arith

      -- lines of begun_chosen members are as they were
      lines_of : (c : ℕ) → c < count → lines_held v (chosen_in u c) ≡ lines_held v (chosen_in w c)
      lines_of c h = ap (lines_held v) (begun_chosen c h)

      begins_next : Splitting v n round old u (count + 1) More
      begins_next = record {
        only = outside_again Z.only (rw eu
            (outside_again (outside_set classes_at lines_at w (classes_at + k) count (omega arith) (omega arith))
            (outside_again (outside_set classes_at lines_at a1 (births_at + count) number (omega arith) (omega (arith, room)))
            (outside_set classes_at lines_at a2 (chosen_at + count) k (omega arith) (omega (arith, room))))));
        classed = rw (add-one count) (classed_new Z.classed k n l few room long_now
            (λ c a z. d (ap (lines_held w) (sym (is_chosen c a z)))) (λ j a z. a) (omega arith) u begun_here chosen_new begun_other begun_chosen);
        more = omega (arith, Z.more);
        old_births = λ c a. begun_birth c (omega (arith, Z.more)) ∙ Z.old_births c a;
        new_births = λ c a b. news c a b (tested (eqb c count));
        old_chosen = λ c a. begun_chosen c (omega (arith, Z.more)) ∙ Z.old_chosen c a;
        kept = λ i a. kept i a (tested (eqb i k));
        came = λ i a. came i a (tested (eqb i k));
        moved = λ i a b. moved i a b (tested (eqb i k));
        alike = λ i a d. alike i a d (tested (eqb i k));
        apart_old = λ c a b. apart_old c a b (tested (eqb c count));
        apart_new = λ c q a b x y. apart_new c q a b x y (tested (eqb c count)) (tested (eqb q count));
      }
        where
          less : (c : ℕ) → c < count + 1 → eqb c count ≡ false → c < count
          less c h e = omega (arith, eqb-false c count e)

          news : (c : ℕ) → old ≤ c → c < count + 1 → Tested (eqb c count) → (born_in u c ≡ round) × (from_in_lem u c < old)
          news c a b (passes e) =
              let x : get_or u (births_at + c) 0 ≡ number = ap (λ (z : ℕ). get_or u (births_at + z) 0) (eqb-true c count e) ∙ birth_new in
              (ap (λ (y : ℕ). y % 65536) x ∙ omega arith, omega (arith, own_old))
          news c a b (fails e) =
              let h : c < count = less c b e in
              let x = Z.new_births c a h in
              (ap (λ (y : ℕ). y % 65536) (begun_birth c h) ∙ x.0, omega (arith, begun_from c h, x.1))

          kept : (i : ℕ) → i < n → Tested (eqb i k) → class_in u i < old → class_in u i ≡ class_in v i
          kept i a (passes e) b = absurd (omega (arith, ap (class_in u) (eqb-true i k e), begun_here, Z.more))
          kept i a (fails e) b =
              let x = begun_other i (omega arith) (eqb-false i k e) in
              x ∙ Z.kept i a (omega arith)

          came : (i : ℕ) → i < n → Tested (eqb i k) → old ≤ class_in u i → from_in_lem u (class_in u i) ≡ class_in v i
          came i a (passes e) b =
              ap (λ (z : ℕ). from_in_lem u (class_in u z)) (eqb-true i k e) ∙ ap (from_in_lem u) begun_here ∙ from_new ∙ own
              ∙ ap (class_in v) (sym (eqb-true i k e))
          came i a (fails e) b =
              let x = begun_other i (omega arith) (eqb-false i k e) in
              ap (from_in_lem u) x ∙ begun_from (class_in w i) (Z.classed.known i a) ∙ Z.came i a (omega arith)

          moved : (i : ℕ) → i < n → old ≤ class_in u i → Tested (eqb i k) → More i
          moved i a b (passes e) = subst More (sym (eqb-true i k e)) this
          moved i a b (fails e) = up i (Z.moved i a (omega (arith, begun_other i (omega arith) (eqb-false i k e))))

          alike : (i : ℕ) → i < n → More i → Tested (eqb i k) → lines_held v i ≡ lines_held v (chosen_in u (class_in u i))
          alike i a d (passes e) =
              subst (λ (z : ℕ). lines_held v z ≡ lines_held v (chosen_in u (class_in u z))) (sym (eqb-true i k e))
              (ap (lines_held v) (sym (ap (chosen_in u) begun_here ∙ chosen_new)))
          alike i a d (fails e) =
              Z.alike i a (back i d (eqb-false i k e))
              ∙ sym (ap (λ (z : ℕ). lines_held v (chosen_in u z)) (begun_other i (omega arith) (eqb-false i k e))
              ∙ lines_of (class_in w i) (Z.classed.known i a))

          -- the lines of the member that begins the part
          new_lines : (c : ℕ) → eqb c count ≡ true → lines_held v (chosen_in u c) ≡ lines_held v k
          new_lines c e = ap (lines_held v) (ap (chosen_in u) (eqb-true c count e) ∙ chosen_new)

          apart_old : (c : ℕ) → old ≤ c → c < count + 1 → Tested (eqb c count)
              → lines_held v (chosen_in u c) ≡ lines_held v (chosen_in u (from_in_lem u c)) → ⊥
          apart_old c a b (passes e) z =
              let o : class_in w k < count = Z.classed.known k l in
              let x : chosen_in u (from_in_lem u c) ≡ chosen_in w (class_in w k) =
              ap (λ (g : ℕ). chosen_in u (from_in_lem u g)) (eqb-true c count e) ∙ ap (chosen_in u) from_new ∙ begun_chosen (class_in w k) o in
              d (same_back k (chosen_in w (class_in w k)) l (model (class_in w k) o) (sym (new_lines c e) ∙ z ∙ ap (lines_held v) x))
          apart_old c a b (fails e) z =
              let h : c < count = less c b e in
              let g : from_in_lem w c < old = (Z.new_births c a h).1 in
              Z.apart_old c a h (sym (lines_of c h) ∙ z ∙ ap (λ (q : ℕ). lines_held v (chosen_in u q)) (begun_from c h)
              ∙ lines_of (from_in_lem w c) (omega (arith, Z.more)))

          -- a part that was there has begun_other lines than the one that is begun
          differs : (p : ℕ) → old ≤ p → p < count → from_in_lem w p ≡ class_in w k → lines_held v k ≡ lines_held v (chosen_in w p) → ⊥
          differs p a b e z = f p a b (e, same_back k (chosen_in w p) l (model p b) z)

          apart_new : (c q : ℕ) → old ≤ c → c < count + 1 → old ≤ q → q < count + 1 → Tested (eqb c count) → Tested (eqb q count)
              → from_in_lem u c ≡ from_in_lem u q → lines_held v (chosen_in u c) ≡ lines_held v (chosen_in u q) → c ≡ q
          apart_new c q a b x y (passes e) (passes g) h z = eqb-true c count e ∙ sym (eqb-true q count g)
          apart_new c q a b x y (passes e) (fails g) h z =
              let m : q < count = less q y g in
              absurd (differs q x m (sym (begun_from q m) ∙ sym h ∙ ap (from_in_lem u) (eqb-true c count e) ∙ from_new)
              (sym (new_lines c e) ∙ z ∙ lines_of q m))
          apart_new c q a b x y (fails e) (passes g) h z =
              let m : c < count = less c b e in
              absurd (differs c a m (sym (begun_from c m) ∙ h ∙ ap (from_in_lem u) (eqb-true q count g) ∙ from_new)
              (sym (new_lines q g) ∙ sym z ∙ lines_of c m))
          apart_new c q a b x y (fails e) (fails g) h z =
              let m : c < count = less c b e in
              let o : q < count = less q y g in
              Z.apart_new c q a m x o (sym (begun_from c m) ∙ h ∙ begun_from q o) (sym (lines_of c m) ∙ z ∙ lines_of q o)

    pub splitting_next : round < 65536 → (u : List ℕ) (r : ℕ) → MemberSplit w round k old count u r → Splitting v n round old u r More
    splitting_next small u r (keeps h eu er) = rw (eu, er) (keeps_next h)
    splitting_next small u r (joins d p a b f eu er) = rw (eu, er) (joins_next d p a b f)
    splitting_next small u r (begins d f eu er) = rw er (begins_next small d f u eu)
