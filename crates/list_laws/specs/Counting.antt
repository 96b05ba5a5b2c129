-- Counting: lists without repeats, and how long a list is that lies inside another.
use Rattle.std.specs.Prelude.{◌≡◌, refl, true, ℕ, suc, ◌≤◌, ◌<◌, length}
use Rattle.std.proofs.Common.{sym, ap, ap₂, ◌∙◌, subst, ⊎_elim, arith}
use mathlib.Core.List.Memᴰ
use mathlib.Core.List.{List, [], ◌∷◌, ◌++◌, map, Memᴰ}
use Rattle.lists.specs.Lists.{Ascends, Distinct, no_elements, one_more}
use Rattle.list_laws.specs.AscendingLaws.{Order, ascends_head, ascends_tail}
use Rattle.list_laws.specs.Members.{mem_map}

module _ {A : Type 0} where
  -- a list with an element taken out
  record Split (a : A) (ys : List A) : Type 0 where
    pub rest : List A
    pub shorter : length ys ≡ suc (length rest)
    pub others : (b : A) → (b ≡ a → ⊥) → Memᴰ b ys → Memᴰ b rest

  split : (a : A) (ys : List A) → Memᴰ a ys → Split a ys
  split a [] m = absurd (Memᴰ.not-nil m)
  split a (y ∷ ys) m =
      ⊎_elim
      (λ (e : a ≡ y). record {
        rest = ys;
        shorter = refl;
        others = λ b n k. ⊎_elim (λ (q : b ≡ y). absurd (n (q ∙ sym e))) (λ (i : Memᴰ b ys). i) (Memᴰ.cases_cons k);
      })
      (λ (i : Memᴰ a ys).
      let s = split a ys i in
      record {
        rest = y ∷ s.rest;
        shorter = ap suc s.shorter;
        others = λ b n k. ⊎_elim (λ (q : b ≡ y). Memᴰ.head q) (λ (j : Memᴰ b ys). Memᴰ.tail (s.others b n j)) (Memᴰ.cases_cons k);
      })
      (Memᴰ.cases_cons m)

  -- a list without repeats is no longer than one that has its elements
  pub distinct_length : (xs ys : List A) → Distinct xs → ((a : A) → Memᴰ a xs → Memᴰ a ys) → length xs ≤ length ys
  distinct_length [] ys d f = omega arith
  distinct_length (x ∷ xs) ys (one_more n d) f =
      let s = split x ys (f x (Memᴰ.head refl)) in
      let ih : length xs ≤ length s.rest =
      distinct_length xs s.rest d
      (λ a m. s.others a (λ e. n (subst (λ (b : A). Memᴰ b xs) e m)) (f a (Memᴰ.tail m))) in
      omega (arith, s.shorter)

  pub distinct_append : (xs ys : List A) → Distinct xs → Distinct ys → ((a : A) → Memᴰ a xs → Memᴰ a ys → ⊥) → Distinct (xs ++ ys)
  distinct_append [] ys d e f = e
  distinct_append (x ∷ xs) ys (one_more n d) e f =
      one_more
      (λ m. ⊎_elim (λ (i : Memᴰ x xs). n i) (λ (i : Memᴰ x ys). f x (Memᴰ.head refl) i) (Memᴰ.append_cases xs m))
      (distinct_append xs ys d e (λ a m k. f a (Memᴰ.tail m) k))

  module _ (O : Order A) where
    -- an ascending list has no repeats
    pub ascends_distinct : (xs : List A) → Ascends O.before xs → Distinct xs
    ascends_distinct [] p = no_elements
    ascends_distinct (x ∷ xs) p =
        one_more (λ m. O.irreflexive x (ascends_head O p x m)) (ascends_distinct xs (ascends_tail O p))

    -- two ascending lists, one inside the other and as long, are equal
    pub ascends_filled : (xs ys : List A) → Ascends O.before xs → Ascends O.before ys → ((a : A) → Memᴰ a xs → Memᴰ a ys) → length ys ≤ length xs → xs ≡ ys
    ascends_filled [] [] p q f l = refl
    ascends_filled [] (y ∷ ys) p q f l = absurd (omega arith)
    ascends_filled (x ∷ xs) [] p q f l = absurd (Memᴰ.not-nil (f x (Memᴰ.head refl)))
    ascends_filled (x ∷ xs) (y ∷ ys) p q f l =
        ⊎_elim
        (λ (e : x ≡ y).
        ap₂ (λ (a : A) (k : List A). a ∷ k) e
        (ascends_filled xs ys (ascends_tail O p) (ascends_tail O q)
        (λ a m. ⊎_elim (λ (i : a ≡ y). absurd (O.irreflexive x (subst (λ (b : A). O.before x b ≡ true) (i ∙ sym e) (ascends_head O p a m))))
        (λ (i : Memᴰ a ys). i) (Memᴰ.cases_cons (f a (Memᴰ.tail m))))
        (omega arith)))
        (λ (i : Memᴰ x ys).
        absurd (too_short (distinct_length (x ∷ xs) ys (ascends_distinct (x ∷ xs) p) (later i))))
        (Memᴰ.cases_cons (f x (Memᴰ.head refl)))
      where
        too_short : suc (length xs) ≤ length ys → ⊥
        too_short h = omega arith

        later : Memᴰ x ys → (a : A) → Memᴰ a (x ∷ xs) → Memᴰ a ys
        later i a m =
            ⊎_elim (λ (e : a ≡ x). subst (λ (b : A). Memᴰ b ys) (sym e) i)
            (λ (k : Memᴰ a xs).
            ⊎_elim
            (λ (e : a ≡ y). absurd (O.irreflexive y (O.transitive y x y (ascends_head O q x i) (subst (λ (b : A). O.before x b ≡ true) e (ascends_head O p a k)))))
            (λ (j : Memᴰ a ys). j) (Memᴰ.cases_cons (f a (Memᴰ.tail k))))
            (Memᴰ.cases_cons m)

module _ {A B : Type 0} (f : A → B) where
  -- a map that tells elements apart keeps them distinct
  pub distinct_map : (xs : List A) → ((a b : A) → f a ≡ f b → a ≡ b) → Distinct xs → Distinct (map f xs)
  distinct_map [] inj d = no_elements
  distinct_map (x ∷ xs) inj (one_more n d) =
      one_more (λ m. let y = mem_map f xs m in n (subst (λ (a : A). Memᴰ a xs) (sym (inj x y.0 y.2)) y.1)) (distinct_map xs inj d)

-- a map that tells its elements apart keeps them distinct
pub distinct_map_on : {A B : Type 0} (f : A → B) (xs : List A) → Distinct xs
    → ((a b : A) → Memᴰ a xs → Memᴰ b xs → f a ≡ f b → a ≡ b) → Distinct (map f xs)
distinct_map_on f [] d inj = no_elements
distinct_map_on {A} f (x ∷ xs) (one_more n d) inj =
    one_more
    (λ m. let y = mem_map f xs m in
    n (subst (λ (a : A). Memᴰ a xs) (sym (inj x y.0 (Memᴰ.head refl) (Memᴰ.tail y.1) y.2)) y.1))
    (distinct_map_on f xs d (λ a b h k e. inj a b (Memᴰ.tail h) (Memᴰ.tail k) e))
