-- Round 0: a class for each store. The members stand in ascending order of their stores, so equal stores stand side by side.
use Rattle.std.specs.Prelude.{◌≡◌, Bool, true, false, List, ℕ, suc, ◌+◌, ◌-◌, ◌*◌, ◌/◌, ◌≤◌, ◌<◌, length, get_or, set, eqb}
use Rattle.std.proofs.Common.{sym, ap, ◌∙◌, subst, inl, arith, add-one, length-set, get_or-set_same, get_or-set_other, eqb-true}
use Rattle.std.proofs.lemmas.Bool.{eqb-false}
use Rattle.work_layout.specs.TestLaws.{Tested, tested, passes, fails}
use Rattle.work_layout.specs.Frames.{SameOutside, outside_same, outside_set, outside_again}
use Rattle.work_layout.specs.SetLayout.{member_at}
use Rattle.class_splits.specs.ClassedPlaces.{chosen_in, Classed, classed_new, classed_append}
use Rattle.work_layout.specs.WorkLayout.{work_end, members_at, classes_at, births_at, chosen_at, lines_at, member_room}
use Rattle.work_layout.specs.ClassLayout.{class_in}

-- the store of the member at place i
abbrev pub store_in : List ℕ → ℕ → ℕ
store_in w i = (member_at w i).store

-- whether the member at place i has another store than the one before it
abbrev pub AnotherStore : List ℕ → ℕ → Type 0
AnotherStore w i = 0 < i → store_in w (i - 1) ≡ store_in w i → ⊥

-- what a test for it tells
pub record StoreTold (w : List ℕ) (i : ℕ) (r : Bool) : Type 0 where
  pub another : r ≡ true → AnotherStore w i
  pub same : r ≡ false → (0 < i) × (store_in w (i - 1) ≡ store_in w i)

-- what the member at place i gets: a class of its own, born in round 0, or the class of the one before it
pub data FoundOne (w : List ℕ) (i count : ℕ) (v : List ℕ) (r : ℕ) : Type 0 where
  founder : AnotherStore w i → v ≡ set (set (set w (births_at + count) 0) (chosen_at + count) i) (classes_at + i) count
      → r ≡ count + 1 → FoundOne w i count v r
  follower : 0 < i → store_in w (i - 1) ≡ store_in w i → v ≡ set w (classes_at + i) (count - 1) → r ≡ count → FoundOne w i count v r

-- the first i members ascend by their stores
abbrev pub StoresRise : List ℕ → ℕ → Type 0
StoresRise w i = (j k : ℕ) → j ≤ k → k < i → store_in w j ≤ store_in w k

-- the first i members of v have their classes of round 0 in w
pub record Founding (v : List ℕ) (i : ℕ) (w : List ℕ) (count : ℕ) : Type 0 where
  pub only : SameOutside classes_at lines_at v w
  pub classed : Classed w i count
  pub founders : (c : ℕ) → c < count → get_or w (births_at + c) 0 ≡ 0
  pub newest : 0 < i → class_in w (i - 1) + 1 ≡ count
  pub count_fits : count ≤ i
  pub same_store : (j k : ℕ) → j < i → k < i → class_in w j ≡ class_in w k → store_in v j ≡ store_in v k
  pub same_class : StoresRise v i → (j k : ℕ) → j < i → k < i → store_in v j ≡ store_in v k → class_in w j ≡ class_in w k

pub founding_first : (v : List ℕ) → Founding v 0 v 0
founding_first v = record {
  only = outside_same classes_at lines_at v;
  classed = record {
    known = λ i l. absurd (omega arith);
    chosen_in_lem = λ c l. absurd (omega arith);
    chosen_of = λ c l. absurd (omega arith);
  };
  founders = λ c l. absurd (omega arith);
  newest = λ h. absurd (omega arith);
  count_fits = omega arith;
  same_store = λ j k l. absurd (omega arith);
  same_class = λ s j k l. absurd (omega arith);
}

module _ (v : List ℕ) (i : ℕ) (w : List ℕ) (count : ℕ) (F : Founding v i w count) (small : i < member_room) (long : work_end ≤ length v) where
  store_same : (j : ℕ) → j < member_room → store_in w j ≡ store_in v j
  store_same j h = ap (λ (x : ℕ). x / 256) (F.only.at (members_at + 3 * j) (inl (omega arith)))

  rise_less : StoresRise v (i + 1) → StoresRise v i
  rise_less s j k h l = s j k h (omega arith)

  -- place i gets the class c: what was there before stays
  module _ (u : List ℕ) (c r : ℕ) (own : class_in u i ≡ c) (classes : (j : ℕ) → j < i → class_in u j ≡ class_in w j) where
    stores_next : ((j : ℕ) → j < i → class_in w j ≡ c → store_in v j ≡ store_in v i) → (j k : ℕ) → j < i + 1 → k < i + 1
        → Tested (eqb j i) → Tested (eqb k i) → class_in u j ≡ class_in u k → store_in v j ≡ store_in v k
    stores_next f j k hj hk (passes x) (passes y) e = ap (store_in v) (eqb-true j i x ∙ sym (eqb-true k i y))
    stores_next f j k hj hk (passes x) (fails y) e =
        let l : k < i = omega (arith, eqb-false k i y) in
        ap (store_in v) (eqb-true j i x) ∙ sym (f k l (sym (classes k l) ∙ sym e ∙ ap (class_in u) (eqb-true j i x) ∙ own))
    stores_next f j k hj hk (fails x) (passes y) e =
        let l : j < i = omega (arith, eqb-false j i x) in
        f j l (sym (classes j l) ∙ e ∙ ap (class_in u) (eqb-true k i y) ∙ own) ∙ ap (store_in v) (sym (eqb-true k i y))
    stores_next f j k hj hk (fails x) (fails y) e =
        let l : j < i = omega (arith, eqb-false j i x) in
        let m : k < i = omega (arith, eqb-false k i y) in
        F.same_store j k l m (sym (classes j l) ∙ e ∙ classes k m)

    classes_next : ((j : ℕ) → j < i → store_in v j ≡ store_in v i → class_in w j ≡ c) → StoresRise v i → (j k : ℕ) → j < i + 1 → k < i + 1
        → Tested (eqb j i) → Tested (eqb k i) → store_in v j ≡ store_in v k → class_in u j ≡ class_in u k
    classes_next f s j k hj hk (passes x) (passes y) e = ap (class_in u) (eqb-true j i x ∙ sym (eqb-true k i y))
    classes_next f s j k hj hk (passes x) (fails y) e =
        let l : k < i = omega (arith, eqb-false k i y) in
        ap (class_in u) (eqb-true j i x) ∙ own ∙ sym (classes k l ∙ f k l (sym e ∙ ap (store_in v) (eqb-true j i x)))
    classes_next f s j k hj hk (fails x) (passes y) e =
        let l : j < i = omega (arith, eqb-false j i x) in
        classes j l ∙ f j l (e ∙ ap (store_in v) (eqb-true k i y)) ∙ sym own ∙ ap (class_in u) (sym (eqb-true k i y))
    classes_next f s j k hj hk (fails x) (fails y) e =
        let l : j < i = omega (arith, eqb-false j i x) in
        let m : k < i = omega (arith, eqb-false k i y) in
        classes j l ∙ F.same_class s j k l m e ∙ sym (classes k m)

  pub founding_next : (u : List ℕ) (r : ℕ) → FoundOne w i count u r → Founding v (i + 1) u r
  founding_next u r (founder d eu er) =
      rw (er, add-one count) (subst (λ (z : List ℕ). Founding v (i + 1) z (suc count)) (sym eu) new)
    where
      a : List ℕ
      a = set w (births_at + count) 0

      b : List ℕ
      b = set a (chosen_at + count) i

      x : List ℕ
      x = set b (classes_at + i) count

      la : length a ≡ length v
      la = length-set w (births_at + count) 0 ∙ F.only.long

      lb : length b ≡ length v
      lb = length-set a (chosen_at + count) i ∙ la

      own : class_in x i ≡ count
      own = get_or-set_same b (classes_at + i) count 0 (omega (arith, lb))

      classes : (j : ℕ) → j < member_room → (j ≡ i → ⊥) → class_in x j ≡ class_in w j
      classes j h e =
          get_or-set_other b (classes_at + i) (classes_at + j) count 0 (λ z. e (omega arith))
          ∙ get_or-set_other a (chosen_at + count) (classes_at + j) i 0 (λ z. omega arith)
          ∙ get_or-set_other w (births_at + count) (classes_at + j) 0 0 (λ z. omega arith)

      first_own : chosen_in x count ≡ i
      first_own =
          get_or-set_other b (classes_at + i) (chosen_at + count) count 0 (λ z. omega arith)
          ∙ get_or-set_same a (chosen_at + count) i 0 (omega (arith, la, F.count_fits))

      first : (c : ℕ) → c < count → chosen_in x c ≡ chosen_in w c
      first c h =
          get_or-set_other b (classes_at + i) (chosen_at + c) count 0 (λ z. omega arith)
          ∙ get_or-set_other a (chosen_at + count) (chosen_at + c) i 0 (λ z. omega arith)
          ∙ get_or-set_other w (births_at + count) (chosen_at + c) 0 0 (λ z. omega (arith, F.count_fits))

      born : (c : ℕ) → c < suc count → Tested (eqb c count) → get_or x (births_at + c) 0 ≡ 0
      born c h t =
          get_or-set_other b (classes_at + i) (births_at + c) count 0 (λ z. omega arith)
          ∙ get_or-set_other a (chosen_at + count) (births_at + c) i 0 (λ z. omega (arith, F.count_fits))
          ∙ go t
        where
          go : Tested (eqb c count) → get_or a (births_at + c) 0 ≡ 0
          go (passes e) =
              ap (λ (z : ℕ). get_or a (births_at + z) 0) (eqb-true c count e)
              ∙ get_or-set_same w (births_at + count) 0 0 (omega (arith, F.only.long, F.count_fits))
          go (fails e) =
              let d : c ≡ count → ⊥ = eqb-false c count e in
              get_or-set_other w (births_at + count) (births_at + c) 0 0 (λ z. d (omega arith)) ∙ F.founders c (omega arith)

      before : i + 1 - 1 ≡ i
      before = omega arith

      new : Founding v (i + 1) x (suc count)
      new = record {
        only = outside_again F.only (outside_again (outside_set classes_at lines_at w (births_at + count) 0 (omega arith)
            (omega (arith, F.count_fits)))
            (outside_again (outside_set classes_at lines_at a (chosen_at + count) i (omega arith) (omega (arith, F.count_fits)))
            (outside_set classes_at lines_at b (classes_at + i) count (omega arith) (omega arith))));
        classed = classed_new F.classed i (i + 1) (omega arith) (omega arith) (omega (arith, F.count_fits)) (omega (arith, F.only.long))
            (λ c h e. omega (arith, F.classed.chosen_in_lem c h)) (λ j h e. omega arith) (omega arith) x own first_own classes first;
        founders = λ c h. born c h (tested (eqb c count));
        newest = λ h. omega (arith, ap (class_in x) before, own);
        count_fits = omega (arith, F.count_fits);
        same_store = λ j k hj hk. stores_next x count (suc count) own (λ z h. classes z (omega arith) (λ e. omega arith))
            (λ z h e. absurd (omega (arith, F.classed.known z h))) j k hj hk (tested (eqb j i)) (tested (eqb k i));
        same_class = λ s j k hj hk. classes_next x count (suc count) own (λ z h. classes z (omega arith) (λ e. omega arith))
            (λ z h e. absurd (apart s z h e)) (rise_less s) j k hj hk (tested (eqb j i)) (tested (eqb k i));
      }
        where
          apart : StoresRise v (i + 1) → (z : ℕ) → z < i → store_in v z ≡ store_in v i → ⊥
          apart s z h e =
              let p : store_in v z ≤ store_in v (i - 1) = s z (i - 1) (omega arith) (omega arith) in
              let q : store_in v (i - 1) ≤ store_in v i = s (i - 1) i (omega arith) (omega arith) in
              let y : store_in v (i - 1) ≡ store_in v i = omega arith in
              d (omega arith) (store_same (i - 1) (omega arith) ∙ y ∙ sym (store_same i small))
  founding_next u r (follower h e eu er) = rw er (subst (λ (z : List ℕ). Founding v (i + 1) z count) (sym eu) more)
    where
      x : List ℕ
      x = set w (classes_at + i) (count - 1)

      lw : length w ≡ length v
      lw = F.only.long

      top : class_in w (i - 1) ≡ count - 1
      top = omega (arith, F.newest h)

      some : count - 1 < count
      some = omega (arith, F.newest h)

      same : store_in v (i - 1) ≡ store_in v i
      same = sym (store_same (i - 1) (omega arith)) ∙ e ∙ store_same i small

      own : class_in x i ≡ count - 1
      own = get_or-set_same w (classes_at + i) (count - 1) 0 (omega (arith, lw))

      classes : (j : ℕ) → j < i → class_in x j ≡ class_in w j
      classes j l = get_or-set_other w (classes_at + i) (classes_at + j) (count - 1) 0 (λ z. omega arith)

      before : i + 1 - 1 ≡ i
      before = omega arith

      more : Founding v (i + 1) x count
      more = record {
        only = outside_again F.only (outside_set classes_at lines_at w (classes_at + i) (count - 1) (omega arith) (omega arith));
        classed = classed_append F.classed (count - 1) some x own classes
            (λ c l. get_or-set_other w (classes_at + i) (chosen_at + c) (count - 1) 0 (λ z. omega arith));
        founders = λ c l. get_or-set_other w (classes_at + i) (births_at + c) (count - 1) 0 (λ z. omega arith) ∙ F.founders c l;
        newest = λ l. omega (arith, ap (class_in x) before, own, some);
        count_fits = omega (arith, F.count_fits);
        same_store = λ j k hj hk. stores_next x (count - 1) count own classes
            (λ z l a. F.same_store z (i - 1) l (omega arith) (a ∙ sym top) ∙ same) j k hj hk (tested (eqb j i)) (tested (eqb k i));
        same_class = λ s j k hj hk. classes_next x (count - 1) count own classes
            (λ z l a. F.same_class (rise_less s) z (i - 1) l (omega arith) (a ∙ sym same) ∙ top) (rise_less s) j k hj hk
            (tested (eqb j i)) (tested (eqb k i));
      }
