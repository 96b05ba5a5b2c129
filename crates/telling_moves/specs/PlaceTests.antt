-- Tests by places: some place below a count passes, and the first one that does.
use Rattle.std.specs.Prelude.{◌≡◌, refl, Option, Some, None, Bool, true, false, cond, ◌||◌, List, [], ◌∷◌, ℕ, zero, suc, ◌+◌, ◌<◌, length, get_or, eqb}
use Rattle.std.proofs.Common.{sym, ap, ◌∙◌, subst, arith, add-one, eqb-true}
use Rattle.std.proofs.lemmas.Bool.{eqb-false}
use Rattle.work_layout.specs.TestLaws.{true_false, or_left, or_right, or_fails, Tested, tested, passes, fails}
use Rattle.dominators.specs.Lists.{any, select}
use Rattle.dominators.specs.Members.{any_mem}
use Rattle.dominators.specs.ListPlaces.{get_d_in, any_nowhere}
use Rattle.work_layout.specs.PlacesPassed.{HoldsFrom, FirstPlace}

-- some place below the count passes
unfoldable pub some_below : (ℕ → Bool) → ℕ → Bool
some_below f zero = false
some_below f (suc n) = some_below f n || f n

pub some_none : (f : ℕ → Bool) → some_below f 0 ≡ false
unfolding some_below
some_none f = refl

pub some_next : (f : ℕ → Bool) (n : ℕ) → some_below f n ≡ false → f n ≡ false → some_below f (n + 1) ≡ false
unfolding some_below
some_next f n h e = rw (add-one n) (or_fails h e)

pub some_hit : (f : ℕ → Bool) (n k : ℕ) → k < n → f k ≡ true → some_below f n ≡ true
unfolding some_below
some_hit f zero k l h = absurd (omega arith)
some_hit f (suc n) k l h = go (some_hit f n k) (tested (eqb k n))
  where
    go : (k < n → f k ≡ true → some_below f n ≡ true) → Tested (eqb k n) → (some_below f n || f n) ≡ true
    go ih (passes y) = or_right (some_below f n) (subst (λ (v : ℕ). f v ≡ true) (eqb-true k n y) h)
    go ih (fails y) = or_left (f n) (ih (omega (arith, eqb-false k n y)) h)

pub some_yes : (f : ℕ → Bool) (n : ℕ) → some_below f n ≡ true → (k : ℕ) × (k < n) × (f k ≡ true)
unfolding some_below
some_yes f zero h = true_false false h refl
some_yes f (suc n) h = go (some_yes f n) (tested (some_below f n)) h
  where
    go : (some_below f n ≡ true → (k : ℕ) × (k < n) × (f k ≡ true)) → Tested (some_below f n) → (some_below f n || f n) ≡ true
        → (k : ℕ) × (k < suc n) × (f k ≡ true)
    go ih (passes y) e = let x = ih y in (x.0, omega (arith, x.1), x.2)
    go ih (fails y) e = (n, omega arith, subst (λ (b : Bool). (b || f n) ≡ true) y e)

pub some_no : (f : ℕ → Bool) (n k : ℕ) → some_below f n ≡ false → k < n → f k ≡ false
some_no f n k h l = go (tested (f k))
  where
    go : Tested (f k) → f k ≡ false
    go (passes y) = true_false (some_below f n) (some_hit f n k l y) h
    go (fails y) = y

-- a test of the elements of a list, by their places
pub any_places : {A : Type 0} (test : A → Bool) (xs : List A) (d : A) (f : ℕ → Bool) (n : ℕ) → length xs ≡ n
    → ((j : ℕ) → j < n → test (get_or xs j d) ≡ f j) → any test xs ≡ some_below f n
any_places test xs d f n e h = go (tested (some_below f n))
  where
    go : Tested (some_below f n) → any test xs ≡ some_below f n
    go (passes y) =
        let x = some_yes f n y in
        any_mem test xs (get_d_in xs x.0 d (omega (arith, x.1, e))) (h x.0 x.1 ∙ x.2) ∙ sym y
    go (fails y) =
        any_nowhere test xs d (λ j l. let k : j < n = omega (arith, e) in h j k ∙ some_no f n j y k) ∙ sym y

-- r is the first place below n that passes, n where none does
abbrev pub First : (ℕ → Bool) → ℕ → ℕ → Type 0
First f n r = FirstPlace (λ j. f j ≡ false) (λ j. f j ≡ true) 0 n r

-- r is the first place below n that passes, none where none does
abbrev pub FirstFound : (ℕ → Bool) → ℕ → Option ℕ → Type 0
FirstFound f n (Some r) = First f n r × (r < n)
FirstFound f n None = First f n n

-- no place before j passes
abbrev pub NoneBefore : (ℕ → Bool) → ℕ → Type 0
NoneBefore f j = HoldsFrom (λ k. f k ≡ false) 0 j

module _ {A : Type 0} (test : A → Bool) where
  -- no element passes
  pub select_none : (xs : List A) (d : A) → ((j : ℕ) → j < length xs → test (get_or xs j d) ≡ false) → select test xs ≡ []
  select_none [] d h = refl
  select_none (x ∷ xs) d h =
      ap (λ (b : Bool). cond b (x ∷ select test xs) (select test xs)) (h 0 (omega arith))
      ∙ select_none xs d (λ j l. h (suc j) (omega arith))

  -- the element at place r is the first that passes
  pub select_first : (xs : List A) (d : A) (r : ℕ) → r < length xs → ((j : ℕ) → j < r → test (get_or xs j d) ≡ false)
      → test (get_or xs r d) ≡ true → (rest : List A) × (select test xs ≡ get_or xs r d ∷ rest)
  select_first [] d r l b h = absurd (omega arith)
  select_first (x ∷ xs) d zero l b h = (select test xs, ap (λ (b : Bool). cond b (x ∷ select test xs) (select test xs)) h)
  select_first (x ∷ xs) d (suc r) l b h =
      let i = select_first xs d r (omega arith) (λ j k. b (suc j) (omega arith)) h in
      (i.0, ap (λ (b : Bool). cond b (x ∷ select test xs) (select test xs)) (b 0 (omega arith)) ∙ i.1)
