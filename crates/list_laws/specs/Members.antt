-- Membership in lists made by test, by map and by joining; decisions over a list.
use Rattle.std.specs.Prelude.{◌≡◌, refl, Bool, true, false, cond, ◌&&◌, ◌||◌, ℕ, eqb}
use Rattle.std.proofs.Common.{sym, ap, ap₂, ◌∙◌, subst, ⊎_elim, eqb-true, eq-eqb}
use mathlib.Core.List.{List, [], ◌∷◌, ◌++◌, map, Memᴰ}
use Rattle.lists.specs.Lists.{select, any, all, concat_map, same_numbers}
use Rattle.list_laws.specs.TestLaws.{true_false, and_left, and_right, and_intro}

module _ {A : Type 0} where
  pub mem_select : (p : A → Bool) (xs : List A) {a : A} → Memᴰ a (select p xs) → Memᴰ a xs × (p a ≡ true)
  mem_select p [] m = absurd (mathlib.Core.List.Memᴰ.not-nil m)
  mem_select p (x ∷ xs) {a} m = go (λ k. mem_select p xs k) (p x) refl m
    where
      go : (Memᴰ a (select p xs) → Memᴰ a xs × (p a ≡ true)) → (b : Bool) → p x ≡ b
          → Memᴰ a (cond b (x ∷ select p xs) (select p xs)) → Memᴰ a (x ∷ xs) × (p a ≡ true)
      go ih true e k =
          ⊎_elim (λ (q : a ≡ x). (mathlib.Core.List.Memᴰ.head q, ap p q ∙ e))
          (λ (r : Memᴰ a (select p xs)). let i = ih r in (mathlib.Core.List.Memᴰ.tail i.0, i.1)) (mathlib.Core.List.Memᴰ.cases_cons k)
      go ih false e k = let i = ih k in (mathlib.Core.List.Memᴰ.tail i.0, i.1)

  pub select_mem : (p : A → Bool) (xs : List A) {a : A} → Memᴰ a xs → p a ≡ true → Memᴰ a (select p xs)
  select_mem p [] m h = absurd (mathlib.Core.List.Memᴰ.not-nil m)
  select_mem p (x ∷ xs) {a} m h =
      ⊎_elim (λ (q : a ≡ x). at (p x) (sym (ap p q) ∙ h) q) (λ (r : Memᴰ a xs). on (p x) (select_mem p xs r h)) (mathlib.Core.List.Memᴰ.cases_cons m)
    where
      at : (b : Bool) → b ≡ true → a ≡ x → Memᴰ a (cond b (x ∷ select p xs) (select p xs))
      at true e q = mathlib.Core.List.Memᴰ.head q
      at false e q = true_false false e refl

      on : (b : Bool) → Memᴰ a (select p xs) → Memᴰ a (cond b (x ∷ select p xs) (select p xs))
      on true k = mathlib.Core.List.Memᴰ.tail k
      on false k = k

  pub any_yes : (p : A → Bool) (xs : List A) → any p xs ≡ true → (a : A) × Memᴰ a xs × (p a ≡ true)
  any_yes p [] h = true_false false h refl
  any_yes p (x ∷ xs) h = go (λ k. any_yes p xs k) (p x) refl h
    where
      go : (any p xs ≡ true → (a : A) × Memᴰ a xs × (p a ≡ true)) → (b : Bool) → p x ≡ b → (b || any p xs) ≡ true
          → (a : A) × Memᴰ a (x ∷ xs) × (p a ≡ true)
      go ih true e k = (x, mathlib.Core.List.Memᴰ.head refl, e)
      go ih false e k = let i = ih k in (i.0, mathlib.Core.List.Memᴰ.tail i.1, i.2)

  pub any_mem : (p : A → Bool) (xs : List A) {a : A} → Memᴰ a xs → p a ≡ true → any p xs ≡ true
  any_mem p [] m h = absurd (mathlib.Core.List.Memᴰ.not-nil m)
  any_mem p (x ∷ xs) {a} m h =
      ⊎_elim (λ (q : a ≡ x). at (p x) (sym (ap p q) ∙ h)) (λ (r : Memᴰ a xs). on (p x) (any_mem p xs r h)) (mathlib.Core.List.Memᴰ.cases_cons m)
    where
      at : (b : Bool) → b ≡ true → (b || any p xs) ≡ true
      at true e = refl
      at false e = true_false false e refl

      on : (b : Bool) → any p xs ≡ true → (b || any p xs) ≡ true
      on true k = refl
      on false k = k

  pub any_no : (p : A → Bool) (xs : List A) → any p xs ≡ false → {a : A} → Memᴰ a xs → p a ≡ false
  any_no p xs h {a} m = go (p a) refl
    where
      go : (b : Bool) → p a ≡ b → p a ≡ false
      go true e = true_false (any p xs) (any_mem p xs m e) h
      go false e = e

  pub all_yes : (p : A → Bool) (xs : List A) → all p xs ≡ true → {a : A} → Memᴰ a xs → p a ≡ true
  all_yes p [] h m = absurd (mathlib.Core.List.Memᴰ.not-nil m)
  all_yes p (x ∷ xs) h {a} m =
      ⊎_elim (λ (q : a ≡ x). ap p q ∙ and_left (p x) (all p xs) h)
      (λ (r : Memᴰ a xs). all_yes p xs (and_right (p x) (all p xs) h) r) (mathlib.Core.List.Memᴰ.cases_cons m)

  pub all_of : (p : A → Bool) (xs : List A) → ((a : A) → Memᴰ a xs → p a ≡ true) → all p xs ≡ true
  all_of p [] f = refl
  all_of p (x ∷ xs) f = and_intro (f x (mathlib.Core.List.Memᴰ.head refl)) (all_of p xs (λ a m. f a (mathlib.Core.List.Memᴰ.tail m)))

  -- a test that not all elements pass fails at some element
  pub all_no : (p : A → Bool) (xs : List A) → all p xs ≡ false → (a : A) × Memᴰ a xs × (p a ≡ false)
  all_no p [] h = true_false true refl h
  all_no p (x ∷ xs) h = go (λ k. all_no p xs k) (p x) refl h
    where
      go : (all p xs ≡ false → (a : A) × Memᴰ a xs × (p a ≡ false)) → (b : Bool) → p x ≡ b → (b && all p xs) ≡ false
          → (a : A) × Memᴰ a (x ∷ xs) × (p a ≡ false)
      go ih true e k = let i = ih k in (i.0, mathlib.Core.List.Memᴰ.tail i.1, i.2)
      go ih false e k = (x, mathlib.Core.List.Memᴰ.head refl, e)

module _ {A B : Type 0} (f : A → B) where
  pub mem_map : (xs : List A) {b : B} → Memᴰ b (map f xs) → (a : A) × Memᴰ a xs × (b ≡ f a)
  mem_map [] m = absurd (mathlib.Core.List.Memᴰ.not-nil m)
  mem_map (x ∷ xs) {b} m =
      ⊎_elim (λ (q : b ≡ f x). (x, mathlib.Core.List.Memᴰ.head refl, q))
      (λ (r : Memᴰ b (map f xs)). let i = mem_map xs r in (i.0, mathlib.Core.List.Memᴰ.tail i.1, i.2)) (mathlib.Core.List.Memᴰ.cases_cons m)

  pub map_mem : {a : A} {xs : List A} → Memᴰ a xs → Memᴰ (f a) (map f xs)
  map_mem (mathlib.Core.List.Memᴰ.head e) = mathlib.Core.List.Memᴰ.head (ap f e)
  map_mem (mathlib.Core.List.Memᴰ.tail m) = mathlib.Core.List.Memᴰ.tail (map_mem m)

module _ {A B : Type 0} (f : A → List B) where
  pub mem_concat_map : (xs : List A) {b : B} → Memᴰ b (concat_map f xs) → (a : A) × Memᴰ a xs × Memᴰ b (f a)
  mem_concat_map [] m = absurd (mathlib.Core.List.Memᴰ.not-nil m)
  mem_concat_map (x ∷ xs) {b} m =
      ⊎_elim (λ (q : Memᴰ b (f x)). (x, mathlib.Core.List.Memᴰ.head refl, q))
      (λ (r : Memᴰ b (concat_map f xs)). let i = mem_concat_map xs r in (i.0, mathlib.Core.List.Memᴰ.tail i.1, i.2)) (mathlib.Core.List.Memᴰ.append_cases (f x) m)

  pub concat_map_mem : (xs : List A) {a : A} {b : B} → Memᴰ a xs → Memᴰ b (f a) → Memᴰ b (concat_map f xs)
  concat_map_mem [] m k = absurd (mathlib.Core.List.Memᴰ.not-nil m)
  concat_map_mem (x ∷ xs) {a} {b} m k =
      ⊎_elim (λ (q : a ≡ x). mathlib.Core.List.Memᴰ.append_left (concat_map f xs) (subst (λ (y : A). Memᴰ b (f y)) q k))
      (λ (r : Memᴰ a xs). mathlib.Core.List.Memᴰ.append_right (f x) (concat_map_mem xs r k)) (mathlib.Core.List.Memᴰ.cases_cons m)

pub same_equal : (xs ys : List ℕ) → same_numbers xs ys ≡ true → xs ≡ ys
same_equal [] [] h = refl
same_equal [] (y ∷ ys) h = true_false false h refl
same_equal (x ∷ xs) [] h = true_false false h refl
same_equal (x ∷ xs) (y ∷ ys) h =
    ap₂ (λ (a : ℕ) (l : List ℕ). a ∷ l) (eqb-true x y (and_left (eqb x y) (same_numbers xs ys) h))
    (same_equal xs ys (and_right (eqb x y) (same_numbers xs ys) h))

pub equal_same : (xs : List ℕ) → same_numbers xs xs ≡ true
equal_same [] = refl
equal_same (x ∷ xs) = and_intro (eq-eqb x x refl) (equal_same xs)
