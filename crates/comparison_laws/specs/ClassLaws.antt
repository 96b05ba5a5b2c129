-- Numbering by a test: numbers go up by first member; where the test is an equivalence, two elements have one number exactly
-- when it holds of them.
use Rattle.std.specs.Prelude.{◌≡◌, ◌⊎◌, Bool, cond, not, ℕ, zero, suc, ◌≤◌, ◌<◌}
use Rattle.std.proofs.Math.Path.{refl, sym, ap, ap₂, subst}
use Rattle.std.proofs.Common.{◌∙◌, arith}
use Rattle.std.proofs.Math.Logic.{inl, inr, ⊎_elim}
use Rattle.std.proofs.Math.Bool.{true, false}
use mathlib.Core.List.{List, [], ◌∷◌, ◌++◌, map, append_assoc, Memᴰ}
use Rattle.std.proofs.Math.ListN.{length, get_or, length-append}
use Rattle.std.proofs.Math.Dec.{eqb}
use borrow.Author.Tests.{eqb-true, eqb-false, eq-eqb, not-true}
use Rattle.move_laws.specs.TestLaws.{true_false, and_left, and_right, and_intro, not_passes, Tested, tested, passes, fails}
use Rattle.move_laws.specs.ListPlaces.{get_d_image}
use Rattle.move_laws.specs.Sheet.{Configuration}
use Rattle.move_laws.specs.Orders.{configuration_before}
use Rattle.move_laws.specs.OrderLaws.{configuration_order}
use Rattle.comparison.specs.Classes.{position, numbered_from, numbered, same_configuration, place_of, class_of, share}
use Rattle.comparison.specs.Promise.{NumberedByFirst}

module _ {A : Type 0} where
  -- ---- positions
  pub position_le : (test : A → Bool) (xs : List A) → position test xs ≤ length xs
  position_le test [] = omega arith
  position_le test (x ∷ xs) = go (position_le test xs) (test x)
    where
      go : position test xs ≤ length xs → (b : Bool) → cond b 0 (suc (position test xs)) ≤ suc (length xs)
      go ih true = omega arith
      go ih false = omega arith

  -- an element that passes has a place before the end, and the element there passes
  pub position_found : (test : A → Bool) (xs : List A) {a : A} → Memᴰ a xs → test a ≡ true → position test xs < length xs
  position_found test [] m h = absurd (mathlib.Core.List.Memᴰ.not-nil m)
  position_found test (x ∷ xs) {a} m h = go (λ k. position_found test xs k h) (test x) refl
    where
      go : (Memᴰ a xs → position test xs < length xs) → (b : Bool) → test x ≡ b → cond b 0 (suc (position test xs)) < suc (length xs)
      go ih true e = omega arith
      go ih false e =
          ⊎_elim (λ (q : a ≡ x). true_false (test a) h (ap test q ∙ e)) (λ (k : Memᴰ a xs). omega (arith, ih k)) (mathlib.Core.List.Memᴰ.cases_cons m)

  pub position_at : (test : A → Bool) (xs : List A) (d : A) → position test xs < length xs
      → Memᴰ (get_or xs (position test xs) d) xs × (test (get_or xs (position test xs) d) ≡ true)
  position_at test [] d l = absurd (omega arith)
  position_at test (x ∷ xs) d l = go (position_at test xs d) (test x) refl l
    where
      go : (position test xs < length xs → Memᴰ (get_or xs (position test xs) d) xs × (test (get_or xs (position test xs) d) ≡ true))
          → (b : Bool) → test x ≡ b → cond b 0 (suc (position test xs)) < suc (length xs)
          → Memᴰ (get_or (x ∷ xs) (cond b 0 (suc (position test xs))) d) (x ∷ xs) × (test (get_or (x ∷ xs) (cond b 0 (suc (position test xs))) d) ≡ true)
      go ih true e l = (mathlib.Core.List.Memᴰ.head refl, e)
      go ih false e l = let i = ih (omega arith) in (mathlib.Core.List.Memᴰ.tail i.0, i.1)

  -- no element before the place passes
  pub position_before : (test : A → Bool) (xs : List A) (i : ℕ) (d : A) → i < position test xs → test (get_or xs i d) ≡ false
  position_before test [] i d l = absurd (omega arith)
  position_before test (x ∷ xs) i d l = go (position_before test xs) (test x) refl i l
    where
      go : ((j : ℕ) (d : A) → j < position test xs → test (get_or xs j d) ≡ false) → (b : Bool) → test x ≡ b
          → (j : ℕ) → j < cond b 0 (suc (position test xs)) → test (get_or (x ∷ xs) j d) ≡ false
      go ih true e j l = absurd (omega arith)
      go ih false e zero l = e
      go ih false e (suc j) l = ih j d (omega arith)

  -- the place is not after an element that passes
  pub position_most : (test : A → Bool) (xs : List A) (k : ℕ) (d : A) → k < length xs → test (get_or xs k d) ≡ true → position test xs ≤ k
  position_most test [] k d l h = absurd (omega arith)
  position_most test (x ∷ xs) k d l h = go (position_most test xs) (test x) refl k l h
    where
      go : ((j : ℕ) (d : A) → j < length xs → test (get_or xs j d) ≡ true → position test xs ≤ j) → (b : Bool) → test x ≡ b
          → (j : ℕ) → j < suc (length xs) → test (get_or (x ∷ xs) j d) ≡ true → cond b 0 (suc (position test xs)) ≤ j
      go ih true e j l h = omega arith
      go ih false e zero l h = true_false (test x) h e
      go ih false e (suc j) l h = omega (arith, ih j d (omega arith) h)

  -- only the values of the test on the list matter
  pub position_same : (f g : A → Bool) (xs : List A) → ((a : A) → Memᴰ a xs → f a ≡ g a) → position f xs ≡ position g xs
  position_same f g [] h = refl
  position_same f g (x ∷ xs) h =
      ap₂ (λ (b : Bool) (n : ℕ). cond b 0 (suc n)) (h x (mathlib.Core.List.Memᴰ.head refl)) (position_same f g xs (λ a m. h a (mathlib.Core.List.Memᴰ.tail m)))

  -- one found in the first part has the same place in the whole
  pub position_first : (test : A → Bool) (xs ys : List A) → position test xs < length xs → position test (xs ++ ys) ≡ position test xs
  position_first test [] ys l = absurd (omega arith)
  position_first test (x ∷ xs) ys l = go (position_first test xs ys) (test x) l
    where
      go : (position test xs < length xs → position test (xs ++ ys) ≡ position test xs) → (b : Bool) → cond b 0 (suc (position test xs)) < suc (length xs)
          → cond b 0 (suc (position test (xs ++ ys))) ≡ cond b 0 (suc (position test xs))
      go ih true l = refl
      go ih false l = ap suc (ih (omega arith))

  -- one that is not in the first part is looked for in the second
  pub position_later : (test : A → Bool) (xs : List A) (y : A) (ys : List A) → position test xs ≡ length xs → test y ≡ true → position test (xs ++ (y ∷ ys)) ≡ length xs
  position_later test [] y ys e h = ap (λ (b : Bool). cond b 0 (suc (position test ys))) h
  position_later test (x ∷ xs) y ys e h = go (λ k. position_later test xs y ys k h) (test x) e
    where
      go : (position test xs ≡ length xs → position test (xs ++ (y ∷ ys)) ≡ length xs) → (b : Bool) → cond b 0 (suc (position test xs)) ≡ suc (length xs)
          → cond b 0 (suc (position test (xs ++ (y ∷ ys)))) ≡ suc (length xs)
      go ih true e = absurd (omega arith)
      go ih false e = ap suc (ih (omega arith))

  -- ---- numbers are places among the first members of classes
  module _ (test : A → A → Bool) where
    -- the first members, of which `firsts` are known
    pub record Firsts (firsts ps : List A) : Type 0 where
      pub later : List A
      pub from : (a : A) → Memᴰ a later → Memᴰ a ps
      pub numbers : numbered_from test firsts ps ≡ map (λ p. position (λ f. test f p) (firsts ++ later)) ps
      pub has : (p : A) → Memᴰ p ps → position (λ f. test f p) (firsts ++ later) < length (firsts ++ later)

    firsts_of : (firsts ps : List A) → ((p : A) → Memᴰ p ps → test p p ≡ true) → Firsts firsts ps
    unfolding numbered_from
    firsts_of firsts [] h = record { later = []; from = λ a m. m; numbers = refl; has = λ p m. absurd (mathlib.Core.List.Memᴰ.not-nil m) }
    firsts_of firsts (p ∷ ps) h =
        go (λ fs. firsts_of fs ps (λ q m. h q (mathlib.Core.List.Memᴰ.tail m))) (eqb (position (λ f. test f p) firsts) (length firsts)) refl
      where
        go : ((fs : List A) → Firsts fs ps) → (b : Bool) → eqb (position (λ f. test f p) firsts) (length firsts) ≡ b → Firsts firsts (p ∷ ps)
        go ih true e =
            let r = ih (firsts ++ (p ∷ [])) in
            let s : (firsts ++ (p ∷ [])) ++ r.later ≡ firsts ++ (p ∷ r.later) = append_assoc firsts (p ∷ []) r.later in
            let at : position (λ f. test f p) (firsts ++ (p ∷ r.later)) ≡ position (λ f. test f p) firsts =
            position_later (λ f. test f p) firsts p r.later (eqb-true _ _ e) (h p (mathlib.Core.List.Memᴰ.head refl)) ∙ sym (eqb-true _ _ e) in
            record {
              later = p ∷ r.later;
              from = λ a m. ⊎_elim (λ (q : a ≡ p). mathlib.Core.List.Memᴰ.head q) (λ (i : Memᴰ a r.later). mathlib.Core.List.Memᴰ.tail (r.from a i)) (mathlib.Core.List.Memᴰ.cases_cons m);
              numbers =
                  ap₂ (λ (n : ℕ) (l : List ℕ). n ∷ l) (sym at)
                  (ap (λ (b : Bool). numbered_from test (cond b (firsts ++ (p ∷ [])) firsts) ps) e
                  ∙ r.numbers ∙ ap (λ (fs : List A). map (λ q. position (λ f. test f q) fs) ps) s);
              has = λ q m.
                  ⊎_elim
                  (λ (i : q ≡ p). position_found (λ f. test f q) (firsts ++ (p ∷ r.later)) (mathlib.Core.List.Memᴰ.append_right firsts (mathlib.Core.List.Memᴰ.head i)) (h q m))
                  (λ (i : Memᴰ q ps). subst (λ (fs : List A). position (λ f. test f q) fs < length fs) s (r.has q i))
                  (mathlib.Core.List.Memᴰ.cases_cons m);
            }
        go ih false e =
            let r = ih firsts in
            let l : position (λ f. test f p) firsts < length firsts = omega (arith, position_le (λ f. test f p) firsts, eqb-false (position (λ f. test f p) firsts) (length firsts) e) in
            let at : position (λ f. test f p) (firsts ++ r.later) ≡ position (λ f. test f p) firsts = position_first (λ f. test f p) firsts r.later l in
            record {
              later = r.later;
              from = λ a m. mathlib.Core.List.Memᴰ.tail (r.from a m);
              numbers =
                  ap₂ (λ (n : ℕ) (l : List ℕ). n ∷ l) (sym at)
                  (ap (λ (b : Bool). numbered_from test (cond b (firsts ++ (p ∷ [])) firsts) ps) e ∙ r.numbers);
              has = λ q m.
                  ⊎_elim
                  (λ (i : q ≡ p).
                  subst (λ (x : A). position (λ f. test f x) (firsts ++ r.later) < length (firsts ++ r.later)) (sym i)
                  (omega (arith, at, l, length-append firsts r.later)))
                  (λ (i : Memᴰ q ps). r.has q i)
                  (mathlib.Core.List.Memᴰ.cases_cons m);
            }

    -- numbers of a whole list
    pub numbered_firsts : (ps : List A) → ((p : A) → Memᴰ p ps → test p p ≡ true) → Firsts [] ps
    numbered_firsts ps h = firsts_of [] ps h

  -- the numbering depends on the test's values on the list only
  numbered_from_same : (f g : A → A → Bool) (firsts ps : List A)
      → ((a b : A) → (Memᴰ a firsts ⊎ Memᴰ a ps) → Memᴰ b ps → f a b ≡ g a b) → numbered_from f firsts ps ≡ numbered_from g firsts ps
  unfolding numbered_from
  numbered_from_same f g firsts [] h = refl
  numbered_from_same f g firsts (p ∷ ps) h =
      let e : position (λ x. f x p) firsts ≡ position (λ x. g x p) firsts = position_same (λ x. f x p) (λ x. g x p) firsts (λ a m. h a p (inl m) (mathlib.Core.List.Memᴰ.head refl)) in
      ap₂ (λ (n : ℕ) (l : List ℕ). n ∷ l) e
      (ap (λ (n : ℕ). numbered_from f (cond (eqb n (length firsts)) (firsts ++ (p ∷ [])) firsts) ps) e
      ∙ numbered_from_same f g (cond (eqb (position (λ x. g x p) firsts) (length firsts)) (firsts ++ (p ∷ [])) firsts) ps
      (λ a b m k. h a b (within (eqb (position (λ x. g x p) firsts) (length firsts)) a m) (mathlib.Core.List.Memᴰ.tail k)))
    where
      within : (t : Bool) (a : A) → (Memᴰ a (cond t (firsts ++ (p ∷ [])) firsts) ⊎ Memᴰ a ps) → Memᴰ a firsts ⊎ Memᴰ a (p ∷ ps)
      within t a (inr m) = inr (mathlib.Core.List.Memᴰ.tail m)
      within true a (inl m) =
          ⊎_elim (λ (i : Memᴰ a firsts). inl i) (λ (i : Memᴰ a (p ∷ [])). inr (mathlib.Core.List.Memᴰ.head (mathlib.Core.List.Memᴰ.eq_of_singleton i))) (mathlib.Core.List.Memᴰ.append_cases firsts m)
      within false a (inl m) = inl m

  pub numbered_same : (f g : A → A → Bool) (ps : List A) → ((a b : A) → Memᴰ a ps → Memᴰ b ps → f a b ≡ g a b) → numbered f ps ≡ numbered g ps
  numbered_same f g ps h = numbered_from_same f g [] ps (λ a b m k. h a b (⊎_elim (λ (i : Memᴰ a []). absurd (mathlib.Core.List.Memᴰ.not-nil i)) (λ (i : Memᴰ a ps). i) m) k)

-- ---- numbers by first member
-- n numbers are in use: each further number is one of them, or the next, which then is in use too
pub data Numbering : ℕ → List ℕ → Type 0 where
  no_more : {n : ℕ} → Numbering n []
  in_use : {n k : ℕ} {ks : List ℕ} → k < n → Numbering n ks → Numbering n (k ∷ ks)
  next : {n : ℕ} {ks : List ℕ} → Numbering (suc n) ks → Numbering n (n ∷ ks)

-- whatever the test
pub numbered_from_numbering : {A : Type 0} (test : A → A → Bool) (firsts ps : List A) → Numbering (length firsts) (numbered_from test firsts ps)
unfolding numbered_from
numbered_from_numbering test firsts [] = no_more
numbered_from_numbering {A} test firsts (p ∷ ps) =
    go (λ fs. numbered_from_numbering test fs ps) (eqb (position (λ f. test f p) firsts) (length firsts)) refl
  where
    go : ((fs : List A) → Numbering (length fs) (numbered_from test fs ps)) → (b : Bool) → eqb (position (λ f. test f p) firsts) (length firsts) ≡ b
        → Numbering (length firsts) (position (λ f. test f p) firsts ∷ numbered_from test (cond b (firsts ++ (p ∷ [])) firsts) ps)
    go ih true e =
        let s : length (firsts ++ (p ∷ [])) ≡ suc (length firsts) = omega (arith, length-append firsts (p ∷ [])) in
        subst (λ (k : ℕ). Numbering (length firsts) (k ∷ numbered_from test (firsts ++ (p ∷ [])) ps)) (sym (eqb-true _ _ e))
        (next (subst (λ (n : ℕ). Numbering n (numbered_from test (firsts ++ (p ∷ [])) ps)) s (ih (firsts ++ (p ∷ [])))))
    go ih false e =
        let l : position (λ f. test f p) firsts < length firsts =
        omega (arith, position_le (λ f. test f p) firsts, eqb-false (position (λ f. test f p) firsts) (length firsts) e) in
        in_use l (ih firsts)

-- the number at place i: one of the first n, one that an earlier place has, or the least from n on that none has
data At (n : ℕ) (ks : List ℕ) (i : ℕ) : Type 0 where
  low : get_or ks i 0 < n → At n ks i
  again : (j : ℕ) → j < i → get_or ks j 0 ≡ get_or ks i 0 → At n ks i
  fresh : n ≤ get_or ks i 0 → ((j : ℕ) → j < i → get_or ks j 0 ≡ get_or ks i 0 → ⊥)
      → ((c : ℕ) → n ≤ c → c < get_or ks i 0 → (j : ℕ) × (j < i) × (get_or ks j 0 ≡ c)) → At n ks i

numbering_at : {n : ℕ} {ks : List ℕ} → Numbering n ks → (i : ℕ) → i < length ks → At n ks i
numbering_at no_more i l = absurd (omega arith)
numbering_at (in_use h s) zero l = low h
numbering_at {n} (in_use {k = k} {ks = ks} h s) (suc i) l = go (numbering_at s i (omega arith))
  where
    go : At n ks i → At n (k ∷ ks) (suc i)
    go (low g) = low g
    go (again j g e) = again (suc j) (omega arith) e
    go (fresh g none all) = fresh g (λ j. new j) (λ c a b. let x = all c a b in (suc x.0, omega (arith, x.1), x.2))
      where
        new : (j : ℕ) → j < suc i → get_or (k ∷ ks) j 0 ≡ get_or ks i 0 → ⊥
        new zero a e = absurd (omega (arith, e, g, h))
        new (suc j) a e = none j (omega arith) e
numbering_at (next s) zero l = fresh (omega arith) (λ j a e. absurd (omega arith)) (λ c a b. absurd (omega arith))
numbering_at {n} (next {ks = ks} s) (suc i) l = go (numbering_at s i (omega arith))
  where
    go : At (suc n) ks i → At n (n ∷ ks) (suc i)
    go (low g) = known (tested (eqb n (get_or ks i 0)))
      where
        known : Tested (eqb n (get_or ks i 0)) → At n (n ∷ ks) (suc i)
        known (passes e) = again 0 (omega arith) (eqb-true n (get_or ks i 0) e)
        known (fails e) = low (omega (arith, g, eqb-false n (get_or ks i 0) e))
    go (again j g e) = again (suc j) (omega arith) e
    go (fresh g none all) = fresh (omega (arith, g)) (λ j. new j) (λ c a b. found c a b (tested (eqb n c)))
      where
        new : (j : ℕ) → j < suc i → get_or (n ∷ ks) j 0 ≡ get_or ks i 0 → ⊥
        new zero a e = absurd (omega (arith, e, g))
        new (suc j) a e = none j (omega arith) e

        found : (c : ℕ) → n ≤ c → c < get_or ks i 0 → Tested (eqb n c) → (j : ℕ) × (j < suc i) × (get_or (n ∷ ks) j 0 ≡ c)
        found c a b (passes e) = (0, omega arith, eqb-true n c e)
        found c a b (fails e) =
            let x = all c (omega (arith, eqb-false n c e)) b in (suc x.0, omega (arith, x.1), x.2)

-- Whatever the test, the numbers go up from 0 by first member.
pub numbered_by_first : {A : Type 0} (test : A → A → Bool) (ps : List A) → NumberedByFirst (numbered test ps)
numbered_by_first test ps = record { at = λ i l. go i (numbering_at (numbered_from_numbering test [] ps) i l) }
  where
    go : (i : ℕ) → At 0 (numbered test ps) i
        → ((j : ℕ) × (j < i) × (get_or (numbered test ps) j 0 ≡ get_or (numbered test ps) i 0))
        ⊎ (((j : ℕ) → j < i → get_or (numbered test ps) j 0 ≡ get_or (numbered test ps) i 0 → ⊥)
        × ((c : ℕ) → c < get_or (numbered test ps) i 0 → (j : ℕ) × (j < i) × (get_or (numbered test ps) j 0 ≡ c)))
    go i (low g) = absurd (omega arith)
    go i (again j a e) = inl (j, a, e)
    go i (fresh g none all) = inr (none, λ c b. all c (omega arith) b)

-- ---- looking a member up
pub same_is : (p q : Configuration) → same_configuration p q ≡ true → p ≡ q
same_is p q h =
    configuration_order.total p q (not-true (configuration_before p q) (and_left (not (configuration_before p q)) (not (configuration_before q p)) h))
    (not-true (configuration_before q p) (and_right (not (configuration_before p q)) (not (configuration_before q p)) h))

pub same_refl : (p : Configuration) → same_configuration p p ≡ true
same_refl p = go (tested (configuration_before p p))
  where
    go : Tested (configuration_before p p) → same_configuration p p ≡ true
    go (passes h) = absurd (configuration_order.irreflexive p h)
    go (fails h) = and_intro (not_passes h) (not_passes h)

-- a member has a place in the set, and stands there
pub place_of_lt : (set : List Configuration) (p : Configuration) → Memᴰ p set → place_of set p < length set
place_of_lt set p m = position_found (same_configuration p) set m (same_refl p)

pub place_of_at : (set : List Configuration) (p : Configuration) → Memᴰ p set → get_or set (place_of set p) p ≡ p
place_of_at set p m = sym (same_is p (get_or set (place_of set p) p) (position_at (same_configuration p) set p (place_of_lt set p m)).1)

-- the class of a member, where each member's number is given by g
pub class_of_map : (set : List Configuration) (g : Configuration → ℕ) (p : Configuration) → Memᴰ p set → class_of set (map g set) p ≡ g p
class_of_map set g p m = get_d_image g set (place_of set p) p 0 (place_of_lt set p m) ∙ ap g (place_of_at set p m)

-- a test that is an equivalence on the elements of a list
pub record Equivalence (set : List Configuration) (test : Configuration → Configuration → Bool) : Type 0 where
  pub reflexive : (p : Configuration) → Memᴰ p set → test p p ≡ true
  pub symmetric : (p q : Configuration) → Memᴰ p set → Memᴰ q set → test p q ≡ true → test q p ≡ true
  pub transitive : (p q r : Configuration) → Memᴰ p set → Memᴰ q set → Memᴰ r set
      → test p q ≡ true → test q r ≡ true → test p r ≡ true

-- two members have one number exactly when the test holds of them
module _ (set : List Configuration) (test : Configuration → Configuration → Bool) (eq : Equivalence set test) where
  -- the first members of the classes
  pub firsts : Firsts test [] set
  firsts = numbered_firsts test set eq.reflexive

  number : Configuration → ℕ
  number p = position (λ f. test f p) firsts.later

  number_is : (p : Configuration) → Memᴰ p set → class_of set (numbered test set) p ≡ number p
  unfolding number
  number_is p m = ap (λ (l : List ℕ). class_of set l p) firsts.numbers ∙ class_of_map set (λ q. position (λ f. test f q) firsts.later) p m

  pub share_test : (p q : Configuration) → Memᴰ p set → Memᴰ q set → share set (numbered test set) p q ≡ true → test p q ≡ true
  unfolding number
  share_test p q mp mq h =
      let e : number p ≡ number q = sym (number_is p mp) ∙ eqb-true _ _ h ∙ number_is q mq in
      let x = position_at (λ f. test f p) firsts.later p (firsts.has p mp) in
      let f : Configuration = get_or firsts.later (number p) p in
      let y : test f q ≡ true =
      subst (λ (n : ℕ). test (get_or firsts.later n p) q ≡ true) (sym e) (position_at (λ f. test f q) firsts.later p (firsts.has q mq)).1 in
      let mf : Memᴰ f set = firsts.from f x.0 in
      eq.transitive p f q mp mf mq (eq.symmetric f p mf mp x.1) y

  pub test_share : (p q : Configuration) → Memᴰ p set → Memᴰ q set → test p q ≡ true → share set (numbered test set) p q ≡ true
  unfolding number
  test_share p q mp mq h =
      eq-eqb _ _
      (number_is p mp
      ∙ position_same (λ f. test f p) (λ f. test f q) firsts.later
      (λ f m. same (firsts.from f m) (tested (test f p)) (tested (test f q)))
      ∙ sym (number_is q mq))
    where
      same : {f : Configuration} → Memᴰ f set → Tested (test f p) → Tested (test f q) → test f p ≡ test f q
      same mf (passes a) (passes b) = a ∙ sym b
      same {f} mf (passes a) (fails b) = true_false (test f q) (eq.transitive f p q mf mp mq a h) b
      same {f} mf (fails a) (passes b) = true_false (test f p) (eq.transitive f q p mf mq mp b (eq.symmetric p q mp mq h)) a
      same mf (fails a) (fails b) = a ∙ sym b

-- there is a number for each element
pub numbered_length : {A : Type 0} (test : A → A → Bool) (firsts ps : List A) → length (numbered_from test firsts ps) ≡ length ps
unfolding numbered_from
numbered_length test firsts [] = refl
numbered_length {A = A} test firsts (p ∷ ps) =
    ap suc (numbered_length test (cond (eqb (position {A = A} (λ f. test f p) firsts) (length firsts)) (firsts ++ (p ∷ [])) firsts) ps)
