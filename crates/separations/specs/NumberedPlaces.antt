-- Classes numbered by first member, in place: the places done have their numbers, the others still their classes, and for each
-- class that was met its number is kept beside.
use Rattle.std.specs.Prelude.{◌≡◌, refl, ◌⊎◌, true, false, List, ℕ, ◌+◌, ◌≤◌, ◌<◌, length, get_or, set, eqb}
use Rattle.std.proofs.Common.{sym, ap, ◌∙◌, subst, inl, inr, arith, length-set, get_or-set_same, get_or-set_other, eqb-true}
use Rattle.std.proofs.lemmas.Bool.{eqb-false}
use Rattle.work_layout.specs.TestLaws.{Tested, tested, passes, fails}
use Rattle.work_layout.specs.Frames.{SameOutside, outside_same, outside_set, outside_again}
use Rattle.class_rounds.specs.ClassedPlaces.{chosen_in, Classed, classed_count}
use Rattle.work_layout.specs.WorkLayout.{work_end, line_totals_at, classes_at, births_at, chosen_at, member_room}
use Rattle.work_layout.specs.ClassLayout.{class_in}

-- the number kept for class c
abbrev pub number_in : List ℕ → ℕ → ℕ
number_in w c = get_or w (line_totals_at + c) 0

-- what is stored for the member at place i
pub data NumberOne (w : List ℕ) (i count : ℕ) (v : List ℕ) (r : ℕ) : Type 0 where
  first_one : chosen_in w (class_in w i) ≡ i → v ≡ set (set w (line_totals_at + class_in w i) count) (classes_at + i) count → r ≡ count + 1
      → NumberOne w i count v r
  later_one : (chosen_in w (class_in w i) ≡ i → ⊥) → v ≡ set w (classes_at + i) (number_in w (class_in w i)) → r ≡ count → NumberOne w i count v r

-- the same, with its class c as it was read
pub number_first : (w : List ℕ) (i count c : ℕ) → c ≡ class_in w i → chosen_in w c ≡ i
    → NumberOne w i count (set (set w (line_totals_at + c) count) (classes_at + i) count) (count + 1)
number_first w i count c e f =
    first_one (ap (chosen_in w) (sym e) ∙ f) (ap (λ (z : ℕ). set (set w (line_totals_at + z) count) (classes_at + i) count) e) refl

pub number_later : (w : List ℕ) (i count c : ℕ) → c ≡ class_in w i → (chosen_in w c ≡ i → ⊥)
    → NumberOne w i count (set w (classes_at + i) (number_in w c)) count
number_later w i count c e f =
    later_one (λ z. f (ap (chosen_in w) e ∙ z)) (ap (λ (z : ℕ). set w (classes_at + i) (number_in w z)) e) refl

-- the class of place j is one of an earlier place, or the least number that no earlier place has
abbrev pub AgainOrNext : List ℕ → ℕ → Type 0
AgainOrNext w j =
    ((h : ℕ) × (h < j) × (class_in w h ≡ class_in w j))
    ⊎ (((h : ℕ) → h < j → class_in w h ≡ class_in w j → ⊥) × ((k : ℕ) → k < class_in w j → (h : ℕ) × (h < j) × (class_in w h ≡ k)))

-- from the classes of v on: the first i places of w have numbers, `count` of them
pub record Numbering (v : List ℕ) (n i : ℕ) (w : List ℕ) (count : ℕ) : Type 0 where
  pub only : SameOutside line_totals_at births_at v w
  pub undone : (j : ℕ) → i ≤ j → j < n → class_in w j ≡ class_in v j
  pub listed : (j : ℕ) → j < i → number_in w (class_in v j) ≡ class_in w j
  pub known : (j : ℕ) → j < i → class_in w j < count
  pub apart : (j k : ℕ) → j < i → k < i → class_in w j ≡ class_in w k → class_in v j ≡ class_in v k
  pub onto : (k : ℕ) → k < count → (j : ℕ) × (j < i) × (class_in w j ≡ k)
  pub few : count ≤ i
  pub by_first : (j : ℕ) → j < i → AgainOrNext w j

pub numbering_first : (v : List ℕ) (n : ℕ) → Numbering v n 0 v 0
numbering_first v n = record {
  only = outside_same line_totals_at births_at v;
  undone = λ j h l. refl;
  listed = λ j h. absurd (omega arith);
  known = λ j h. absurd (omega arith);
  apart = λ j k h. absurd (omega arith);
  onto = λ k h. absurd (omega arith);
  few = omega arith;
  by_first = λ j h. absurd (omega arith);
}

-- the chosen member of each class is its first one
abbrev pub FirstChosen : List ℕ → ℕ → Type 0
FirstChosen v n = (i : ℕ) → i < n → chosen_in v (class_in v i) ≤ i

-- a place is the first of its class, or a place before it is
first_or_later : (v : List ℕ) (n : ℕ) → FirstChosen v n → (i : ℕ) → i < n → (chosen_in v (class_in v i) ≡ i) ⊎ (chosen_in v (class_in v i) < i)
first_or_later v n F i l = go (tested (eqb (chosen_in v (class_in v i)) i))
  where
    go : Tested (eqb (chosen_in v (class_in v i)) i) → (chosen_in v (class_in v i) ≡ i) ⊎ (chosen_in v (class_in v i) < i)
    go (passes e) = inl (eqb-true (chosen_in v (class_in v i)) i e)
    go (fails e) = inr (omega (arith, eqb-false (chosen_in v (class_in v i)) i e, F i l))

module _ (v : List ℕ) (n classes : ℕ) (C : Classed v n classes) (F : FirstChosen v n) (small : n ≤ member_room) (long : work_end ≤ length v)
    (i : ℕ) (l : i < n) (w : List ℕ) (count : ℕ) (N : Numbering v n i w count) where
  own : class_in w i ≡ class_in v i
  own = N.undone i (omega arith) l

  own_small : class_in v i < member_room
  own_small = omega (arith, C.known i l, classed_count C)

  pub numbering_class : class_in w i < member_room
  numbering_class = omega (arith, own, own_small)

  -- first members are left alone
  first_same : (c : ℕ) → chosen_in w c ≡ chosen_in v c
  first_same c = N.only.at (chosen_at + c) (inr (omega arith))

  long_now : work_end ≤ length w
  long_now = omega (arith, N.only.long)

  -- ---- u has the number k at place i; the kept numbers of classes met are as they were
  module _ (u : List ℕ) (k next : ℕ) (only-u : SameOutside line_totals_at births_at w u) (here : class_in u i ≡ k)
      (others : (j : ℕ) → (j ≡ i → ⊥) → j < member_room → class_in u j ≡ class_in w j)
      (kept : (j : ℕ) → j < i → number_in u (class_in v j) ≡ number_in w (class_in v j))
      (mine : number_in u (class_in v i) ≡ k) (fits : k < next) (le : count ≤ next) (nf : next ≤ i + 1)
      (apart-k : (j : ℕ) → j < i → class_in w j ≡ k → class_in v j ≡ class_in v i)
      (onto-k : (q : ℕ) → q < next → (q < count) ⊎ (q ≡ k))
      (found : AgainOrNext u i) where
    before : (j : ℕ) → j < i → class_in u j ≡ class_in w j
    before j h = others j (λ e. omega arith) (omega arith)

    at_i : (j : ℕ) → eqb j i ≡ true → class_in u j ≡ k
    at_i j e = ap (class_in u) (eqb-true j i e) ∙ here

    less : (j : ℕ) → j < i + 1 → eqb j i ≡ false → j < i
    less j h e = omega (arith, eqb-false j i e)

    extended : Numbering v n (i + 1) u next
    extended = record {
      only = outside_again N.only only-u;
      undone = λ j h m. others j (λ e. omega arith) (omega arith) ∙ N.undone j (omega arith) m;
      listed = λ j h. listed j h (tested (eqb j i));
      known = λ j h. known j h (tested (eqb j i));
      apart = λ j q hj hq. apart j q hj hq (tested (eqb j i)) (tested (eqb q i));
      onto = λ q h. onto q (onto-k q h);
      few = nf;
      by_first = λ j h. by j h (tested (eqb j i));
    }
      where
        listed : (j : ℕ) → j < i + 1 → Tested (eqb j i) → number_in u (class_in v j) ≡ class_in u j
        listed j h (passes e) = ap (λ (z : ℕ). number_in u (class_in v z)) (eqb-true j i e) ∙ mine ∙ sym (at_i j e)
        listed j h (fails e) = let b = less j h e in kept j b ∙ N.listed j b ∙ sym (before j b)

        known : (j : ℕ) → j < i + 1 → Tested (eqb j i) → class_in u j < next
        known j h (passes e) = omega (arith, at_i j e)
        known j h (fails e) = let b = less j h e in omega (arith, before j b, N.known j b)

        apart : (j q : ℕ) → j < i + 1 → q < i + 1 → Tested (eqb j i) → Tested (eqb q i) → class_in u j ≡ class_in u q
            → class_in v j ≡ class_in v q
        apart j q hj hq (passes a) (passes b) e = ap (class_in v) (eqb-true j i a ∙ sym (eqb-true q i b))
        apart j q hj hq (passes a) (fails b) e =
            let x = less q hq b in
            ap (class_in v) (eqb-true j i a) ∙ sym (apart-k q x (sym (before q x) ∙ sym e ∙ at_i j a))
        apart j q hj hq (fails a) (passes b) e =
            let x = less j hj a in
            apart-k j x (sym (before j x) ∙ e ∙ at_i q b) ∙ ap (class_in v) (sym (eqb-true q i b))
        apart j q hj hq (fails a) (fails b) e =
            let x = less j hj a in
            let y = less q hq b in
            N.apart j q x y (sym (before j x) ∙ e ∙ before q y)

        onto : (q : ℕ) → (q < count) ⊎ (q ≡ k) → (j : ℕ) × (j < i + 1) × (class_in u j ≡ q)
        onto q (inl h) = let x = N.onto q h in (x.0, omega (arith, x.1), before x.0 x.1 ∙ x.2)
        onto q (inr e) = (i, omega arith, here ∙ sym e)

        moved : (j : ℕ) → j < i → AgainOrNext w j → AgainOrNext u j
        moved j h (inl x) = inl (x.0, x.1, before x.0 (omega (arith, x.1)) ∙ x.2 ∙ sym (before j h))
        moved j h (inr x) =
            inr (
              (λ g m e. x.0 g m (sym (before g (omega arith)) ∙ e ∙ before j h)),
              (λ q m. let y = x.1 q (omega (arith, before j h)) in (y.0, y.1, before y.0 (omega (arith, y.1)) ∙ y.2)),
            )

        by : (j : ℕ) → j < i + 1 → Tested (eqb j i) → AgainOrNext u j
        by j h (passes e) = subst (AgainOrNext u) (sym (eqb-true j i e)) found
        by j h (fails e) = let b = less j h e in moved j b (N.by_first j b)

  pub numbering_next : (u : List ℕ) (r : ℕ) → NumberOne w i count u r → Numbering v n (i + 1) u r
  numbering_next u r (first_one e eu er) =
      rw er (subst (λ (z : List ℕ). Numbering v n (i + 1) z (count + 1)) (sym eu)
      (extended x count (count + 1)
      (outside_again (outside_set line_totals_at births_at w (line_totals_at + class_in w i) count (omega arith) (omega (arith, numbering_class)))
      (outside_set line_totals_at births_at a (classes_at + i) count (omega arith) (omega arith)))
      here others kept mine (omega arith) (omega arith) (omega (arith, N.few))
      (λ j h g. absurd (omega (arith, N.known j h))) (λ q h. cases q (omega arith) (tested (eqb q count)))
      (inr (none, all))))
    where
      a : List ℕ
      a = set w (line_totals_at + class_in w i) count

      x : List ℕ
      x = set a (classes_at + i) count

      la : length a ≡ length w
      la = length-set w (line_totals_at + class_in w i) count

      here : class_in x i ≡ count
      here = get_or-set_same a (classes_at + i) count 0 (omega (arith, la, long_now))

      others : (j : ℕ) → (j ≡ i → ⊥) → j < member_room → class_in x j ≡ class_in w j
      others j d h =
          get_or-set_other a (classes_at + i) (classes_at + j) count 0 (λ z. d (omega arith))
          ∙ get_or-set_other w (line_totals_at + class_in w i) (classes_at + j) count 0 (λ z. omega (arith, numbering_class))

      -- a class that was met is another one
      met : (j : ℕ) → j < i → class_in v j ≡ class_in w i → ⊥
      met j h g = omega (arith, F j (omega arith), ap (chosen_in v) g, first_same (class_in w i), e)

      kept : (j : ℕ) → j < i → number_in x (class_in v j) ≡ number_in w (class_in v j)
      kept j h =
          get_or-set_other a (classes_at + i) (line_totals_at + class_in v j) count 0
          (λ z. omega (arith, C.known j (omega arith), classed_count C))
          ∙ get_or-set_other w (line_totals_at + class_in w i) (line_totals_at + class_in v j) count 0 (λ z. met j h (omega arith))

      mine : number_in x (class_in v i) ≡ count
      mine =
          ap (number_in x) (sym own)
          ∙ get_or-set_other a (classes_at + i) (line_totals_at + class_in w i) count 0 (λ z. omega (arith, numbering_class))
          ∙ get_or-set_same w (line_totals_at + class_in w i) count 0 (omega (arith, long_now, numbering_class))

      cases : (q : ℕ) → q < count + 1 → Tested (eqb q count) → (q < count) ⊎ (q ≡ count)
      cases q h (passes z) = inr (eqb-true q count z)
      cases q h (fails z) = inl (omega (arith, eqb-false q count z))

      lower : (j : ℕ) → j < i → class_in x j ≡ class_in w j
      lower j h = others j (λ z. omega arith) (omega arith)

      none : (h : ℕ) → h < i → class_in x h ≡ class_in x i → ⊥
      none h m g = omega (arith, lower h m, here, N.known h m)

      all : (k : ℕ) → k < class_in x i → (h : ℕ) × (h < i) × (class_in x h ≡ k)
      all k h = let y = N.onto k (omega (arith, here)) in (y.0, y.1, lower y.0 y.1 ∙ y.2)
  numbering_next u r (later_one d eu er) =
      rw er (subst (λ (z : List ℕ). Numbering v n (i + 1) z count) (sym eu) (go (first_or_later v n F i l)))
    where
      k : ℕ
      k = number_in w (class_in w i)

      x : List ℕ
      x = set w (classes_at + i) k

      go : (chosen_in v (class_in v i) ≡ i) ⊎ (chosen_in v (class_in v i) < i) → Numbering v n (i + 1) x count
      go (inl e) = absurd (d (first_same (class_in w i) ∙ ap (chosen_in v) own ∙ e))
      go (inr h) =
          extended x k count (outside_set line_totals_at births_at w (classes_at + i) k (omega arith) (omega arith)) here others
          (λ j m. numbers (class_in v j) (omega (arith, C.known j (omega arith), classed_count C)))
          (numbers (class_in v i) own_small ∙ ap (number_in w) (sym own)) (omega (arith, is, N.known f h)) (omega arith)
          (omega (arith, N.few))
          (λ j m e. N.apart j f m h (e ∙ is) ∙ of) (λ q m. inl m)
          (inl (f, h, others f (λ z. omega arith) (omega arith) ∙ sym is ∙ sym here))
        where
          f : ℕ
          f = chosen_in v (class_in v i)

          of : class_in v f ≡ class_in v i
          of = C.chosen_of (class_in v i) (C.known i l)

          is : k ≡ class_in w f
          is = ap (number_in w) (own ∙ sym of) ∙ N.listed f h

          here : class_in x i ≡ k
          here = get_or-set_same w (classes_at + i) k 0 (omega (arith, long_now))

          others : (j : ℕ) → (j ≡ i → ⊥) → j < member_room → class_in x j ≡ class_in w j
          others j z m = get_or-set_other w (classes_at + i) (classes_at + j) k 0 (λ e. z (omega arith))

          numbers : (c : ℕ) → c < member_room → number_in x c ≡ number_in w c
          numbers c m = get_or-set_other w (classes_at + i) (line_totals_at + c) k 0 (λ e. omega arith)
