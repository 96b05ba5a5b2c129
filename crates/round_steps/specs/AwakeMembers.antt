-- The members whose lines can change in the next round: those that look at one whose class is new.
use Rattle.std.specs.Prelude.{◌≡◌, ◌⊎◌, List, ℕ, suc, ◌+◌, ◌*◌, ◌≤◌, ◌<◌, get_or, eqb}
use Rattle.std.proofs.Common.{sym, ap, ◌∙◌, subst, inl, inr, suc-mul, mul-le-mul_right, arith, eqb-true}
use Rattle.std.proofs.lemmas.Bool.{eqb-false}
use Rattle.work_layout.specs.TestLaws.{Tested, tested, passes, fails}
use Rattle.work_layout.specs.Frames.{SameOutside, outside_same}
use Rattle.place_sets.specs.PlaceSets.{place_digit, InSet, United, Listed}
use Rattle.place_sets.specs.PlaceLaws.{united_left, united_right}
use Rattle.class_splits.specs.SetLinesFound.{InList}
use Rattle.class_splits.specs.ClassedPlaces.{chosen_in, Classed}
use Rattle.class_splits.specs.ChosenPlaces.{chosen_classed}
use Rattle.round_steps.specs.ChosenMembers.{Rechosen}
use Rattle.work_layout.specs.WorkLayout.{chosen_at, lines_at, member_room}
use Rattle.work_layout.specs.ClassLayout.{class_in}

-- the first k numbers of the list are places below n, in ascending order
pub record ListFits (n : ℕ) (list : List ℕ) (k : ℕ) : Type 0 where
  pub few : k ≤ n
  pub below : (j : ℕ) → j < k → get_or list j 0 < n
  pub ascends : (a b : ℕ) → a < b → b < k → get_or list a 0 < get_or list b 0

-- a listed place is not among those before it
pub list_new : {n : ℕ} {list : List ℕ} {k : ℕ} → ListFits n list k → (j : ℕ) → j < k → InList list j (get_or list j 0) → ⊥
list_new F j l x = omega (arith, F.ascends x.0 j x.1 l, x.2)

-- the words of a member's set
pub row_fits : (p n width len : ℕ) → p < n → n * width ≤ len → p * width + width ≤ len
row_fits p n width len l b =
    let m : suc p ≤ n = omega arith in
    omega (arith, mul-le-mul_right width m, suc-mul p width)

-- those that look at a listed member whose class is one of the new ones, from `old` on, are in the set
abbrev pub Woken : List ℕ → List ℕ → ℕ → ℕ → List ℕ → ℕ → List ℕ → Type 0
Woken w ws width old list k awake =
    (j : ℕ) → j < k → old ≤ class_in w (get_or list j 0) → (i : ℕ) → i < 64 * width → InSet ws (get_or list j 0 * width) i → InSet awake 0 i

pub woken_none : (w ws : List ℕ) (width old : ℕ) (list awake : List ℕ) → Woken w ws width old list 0 awake
woken_none w ws width old list awake j l = absurd (omega arith)

-- the member at hand has an old class
pub woken_pass : (w ws : List ℕ) (width old : ℕ) (list : List ℕ) (k : ℕ) (awake : List ℕ) → Woken w ws width old list k awake
    → class_in w (get_or list k 0) < old → Woken w ws width old list (k + 1) awake
woken_pass w ws width old list k awake W b j l h = go (tested (eqb j k))
  where
    go : Tested (eqb j k) → (i : ℕ) → i < 64 * width → InSet ws (get_or list j 0 * width) i → InSet awake 0 i
    go (passes e) = absurd (omega (arith, ap (λ (z : ℕ). class_in w (get_or list z 0)) (eqb-true j k e)))
    go (fails e) = W j (omega (arith, eqb-false j k e)) h

-- those that look at it are united
pub woken_more : (w ws : List ℕ) (width old : ℕ) (list : List ℕ) (k : ℕ) (awake more : List ℕ) → Woken w ws width old list k awake
    → United ws (get_or list k 0 * width) width awake more → Woken w ws width old list (k + 1) more
woken_more w ws width old list k awake more W U j l h i b x = go (tested (eqb j k))
  where
    go : Tested (eqb j k) → InSet more 0 i
    go (passes e) = united_right U i b (subst (λ (z : ℕ). InSet ws (get_or list z 0 * width) i) (eqb-true j k e) x)
    go (fails e) = united_left U i (W j (omega (arith, eqb-false j k e)) h i b x)

-- From w with its list: v differs in chosen members only, and its list has all members that look at a listed one with a new class.
-- A member that is none of these has a chosen member of its class that is none of them.
pub record NextListed (w ws : List ℕ) (width n old : ℕ) (list : List ℕ) (k : ℕ) (v next : List ℕ) (r : ℕ) : Type 0 where
  pub only : SameOutside chosen_at lines_at w v
  pub fits : ListFits n next r
  pub woken : (p : ℕ) → InList list k p → old ≤ class_in w p → (i : ℕ) → i < n → InSet ws (p * width) i → InList next r i
  pub classed : (count : ℕ) → Classed w n count → Classed v n count
  pub rest : (count : ℕ) → Classed w n count → (i : ℕ) → i < n
      → InList next r i
      ⊎ ((InList next r i → ⊥) × (chosen_in v (class_in w i) < n) × (InList next r (chosen_in v (class_in w i)) → ⊥)
      × (class_in w (chosen_in v (class_in w i)) ≡ class_in w i))

module _ (w ws : List ℕ) (width n old : ℕ) (list : List ℕ) (k : ℕ) (awake : List ℕ) (W : Woken w ws width old list k awake)
    (next : List ℕ) (r : ℕ) (L : Listed awake n list next r) (wide : n ≤ 64 * width) where
  fits_next : ListFits n next r
  fits_next = record { few = L.few; below = λ j l. (L.inside j l).0; ascends = L.ascends }

  woken_listed : (p : ℕ) → InList list k p → old ≤ class_in w p → (i : ℕ) → i < n → InSet ws (p * width) i → InList next r i
  woken_listed p x h i l s =
      L.all i l (W x.0 x.1 (subst (λ (z : ℕ). old ≤ class_in w z) (sym x.2) h) i (omega arith)
      (subst (λ (z : ℕ). InSet ws (z * width) i) (sym x.2) s))

  -- what is not in the set is not listed
  not_listed : (i : ℕ) → (InSet awake 0 i → ⊥) → InList next r i → ⊥
  not_listed i d x = d (subst (InSet awake 0) x.2 (L.inside x.0 x.1).1)

  -- no listed member was chosen
  pub next_kept : ((j : ℕ) → j < r → chosen_in w (class_in w (get_or next j 0)) ≡ get_or next j 0 → ⊥)
      → NextListed w ws width n old list k w next r
  next_kept f = record {
    only = outside_same chosen_at lines_at w;
    fits = fits_next;
    woken = woken_listed;
    classed = λ count C. C;
    rest = λ count C i l. go count C i l (tested (eqb (place_digit awake 0 i) 1));
  }
    where
      go : (count : ℕ) → Classed w n count → (i : ℕ) → i < n → Tested (eqb (place_digit awake 0 i) 1)
          → InList next r i
          ⊎ ((InList next r i → ⊥) × (chosen_in w (class_in w i) < n) × (InList next r (chosen_in w (class_in w i)) → ⊥)
          × (class_in w (chosen_in w (class_in w i)) ≡ class_in w i))
      go count C i l (passes e) = inl (L.all i l (eqb-true (place_digit awake 0 i) 1 e))
      go count C i l (fails e) =
          let c : ℕ = class_in w i in
          let b : c < count = C.known i l in
          inr (
            not_listed i (eqb-false (place_digit awake 0 i) 1 e),
            C.chosen_in_lem c b,
            (λ x. f x.0 x.1 (ap (λ (z : ℕ). chosen_in w (class_in w z)) x.2 ∙ ap (chosen_in w) (C.chosen_of c b) ∙ sym x.2)),
            C.chosen_of c b,
          )

  -- members at rest were chosen
  pub next_chosen : n ≤ member_room → (v : List ℕ) → Rechosen w n awake n v → NextListed w ws width n old list k v next r
  next_chosen few v R = record {
    only = R.only;
    fits = fits_next;
    woken = woken_listed;
    classed = λ count C. chosen_classed R (λ i p. p.0) few C;
    rest = λ count C i l. go i l (tested (eqb (place_digit awake 0 i) 1));
  }
    where
      go : (i : ℕ) → i < n → Tested (eqb (place_digit awake 0 i) 1)
          → InList next r i
          ⊎ ((InList next r i → ⊥) × (chosen_in v (class_in w i) < n) × (InList next r (chosen_in v (class_in w i)) → ⊥)
          × (class_in w (chosen_in v (class_in w i)) ≡ class_in w i))
      go i l (passes e) = inl (L.all i l (eqb-true (place_digit awake 0 i) 1 e))
      go i l (fails e) =
          let d : InSet awake 0 i → ⊥ = eqb-false (place_digit awake 0 i) 1 e in
          let x = R.chosen i (l, d) in
          inr (not_listed i d, x.1.0, not_listed (chosen_in v (class_in w i)) x.1.1, x.2)
