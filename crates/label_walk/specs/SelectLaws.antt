-- What is selected from a list: by tests that agree, by a test that none passes, by one test after another; and how many.
use Rattle.std.specs.Prelude.{◌≡◌, refl, Bool, true, false, cond, not, ◌&&◌, ◌||◌, ℕ, suc, ◌+◌, ◌-◌, ◌≤◌, ◌<◌, length}
use Rattle.std.proofs.Common.{ap, ap₂, ◌∙◌, arith}
use mathlib.Core.List.{List, [], ◌∷◌, ◌++◌, append-nil, Memᴰ}
use Rattle.digit_lists.specs.Lists.{select, any}
use Rattle.set_digits.specs.Moves.{count_up}
use Rattle.set_digits.specs.LabelLaws.{mem_count_up, mem_count_up_from}
use Rattle.set_digits.specs.SupersetLaws.{count_up_append, select_append}

module _ {A : Type 0} where
  -- tests that agree on the elements select the same
  pub select_alike : (p q : A → Bool) (xs : List A) → ((a : A) → Memᴰ a xs → p a ≡ q a) → select p xs ≡ select q xs
  select_alike p q [] h = refl
  select_alike p q (x ∷ xs) h =
      ap₂ (λ (t : Bool) (l : List A). cond t (x ∷ l) l) (h x (Memᴰ.head refl)) (select_alike p q xs (λ a m. h a (Memᴰ.tail m)))

  -- where no element passes none is selected
  pub select_none : (p : A → Bool) (xs : List A) → ((a : A) → Memᴰ a xs → p a ≡ false) → select p xs ≡ []
  select_none p [] h = refl
  select_none p (x ∷ xs) h = rw (h x (Memᴰ.head refl)) (select_none p xs (λ a m. h a (Memᴰ.tail m)))

  -- what is selected by one test and then by another passes both
  pub select_both : (p q : A → Bool) (xs : List A) → select q (select p xs) ≡ select (λ a. p a && q a) xs
  select_both p q [] = refl
  select_both p q (x ∷ xs) = go (select_both p q xs) (p x)
    where
      go : select q (select p xs) ≡ select (λ a. p a && q a) xs → (t : Bool)
          → select q (cond t (x ∷ select p xs) (select p xs)) ≡ cond (t && q x) (x ∷ select (λ a. p a && q a) xs) (select (λ a. p a && q a) xs)
      go ih true = ap (λ (l : List A). cond (q x) (x ∷ l) l) ih
      go ih false = ih

  -- the elements that pass and those that do not are all
  pub select_parts : (p : A → Bool) (xs : List A) → length (select p xs) + length (select (λ a. not (p a)) xs) ≡ length xs
  select_parts p [] = refl
  select_parts p (x ∷ xs) = go (select_parts p xs) (p x)
    where
      go : length (select p xs) + length (select (λ a. not (p a)) xs) ≡ length xs → (t : Bool)
          → length (cond t (x ∷ select p xs) (select p xs)) + length (cond (not t) (x ∷ select (λ a. not (p a)) xs) (select (λ a. not (p a)) xs))
          ≡ suc (length xs)
      go ih true = omega arith
      go ih false = omega arith

  -- some element of two lists passes
  pub any_append : (p : A → Bool) (xs ys : List A) → any p (xs ++ ys) ≡ (any p xs || any p ys)
  any_append p [] ys = refl
  any_append p (x ∷ xs) ys = ap (λ (t : Bool). p x || t) (any_append p xs ys) ∙ go (p x)
    where
      go : (t : Bool) → (t || (any p xs || any p ys)) ≡ ((t || any p xs) || any p ys)
      go true = refl
      go false = refl

-- where none from a on passes, those below a are selected
pub select_below : (p : ℕ → Bool) (a b : ℕ) → a ≤ b → ((s : ℕ) → a ≤ s → s < b → p s ≡ false)
    → select p (count_up 0 b) ≡ select p (count_up 0 a)
select_below p a b h f =
    let e : b ≡ a + (b - a) = omega arith in
    ap (λ (n : ℕ). select p (count_up 0 n)) e
    ∙ ap (select p) (count_up_append a (b - a) 0)
    ∙ select_append p (count_up 0 a) (count_up (0 + a) (b - a))
    ∙ ap (λ (l : List ℕ). select p (count_up 0 a) ++ l)
    (select_none p (count_up (0 + a) (b - a))
    (λ s m. f s (omega (arith, mem_count_up_from (b - a) (0 + a) m)) (omega (arith, mem_count_up (b - a) (0 + a) m))))
    ∙ append-nil (select p (count_up 0 a))
