-- The order in which sets come up: every set of n facts once, a set after all that it includes.
use Rattle.std.specs.Prelude.{◌≡◌, refl, Bool, true, false, cond, ◌&&◌, ◌||◌, ℕ, zero, suc, ◌+◌, ◌-◌, ◌^◌, ◌≤◌, ◌<◌, length, eqb, ltb}
use Rattle.std.proofs.Common.{sym, ap, ◌∙◌, subst, ⊎_elim, eqb-true, eq-eqb, ltb-true, ltb-false, lt-ltb}
use mathlib.Core.List.Memᴰ
use mathlib.Core.List.{List, [], ◌∷◌, ◌++◌, append-nil, append_assoc, Memᴰ}
use native.Mathlib.Omega.{arith}
use Rattle.move_laws.specs.Lists.{select, concat_map, Heads, Ascends, none_left, then_rest, Distinct}
use Rattle.move_laws.specs.TestLaws.{Tested, passes, fails, tested, true_false, and_intro, and_left, and_right, or_left, or_right, or_false, neither_below}
use Rattle.move_laws.specs.Members.{mem_select, select_mem, mem_concat_map, concat_map_mem}
use Rattle.move_laws.specs.AscendingLaws.{Order}
use Rattle.move_laws.specs.Counting.{distinct_length, ascends_distinct}
use Rattle.move_laws.specs.FactSets.{Within}
use Rattle.move_laws.specs.FactSetLaws.{within_le}
use Rattle.move_laws.specs.Moves.{count_up}
use Rattle.move_laws.specs.LabelLaws.{count_up_mem, mem_count_up, mem_count_up_from, count_up_length, count_up_distinct, distinct_select}
use Rattle.ordered_search.specs.OrderedSearch.{fact_count, comes_first, sets_of_size, candidates_below, candidates}
use Rattle.search_laws.specs.SizeLaws.{count_below, count_most}

-- ---- lists
-- two lists without repeats that have the same elements are as long
pub same_length : {A : Type 0} (xs ys : List A) → Distinct xs → Distinct ys → ((a : A) → Memᴰ a xs → Memᴰ a ys)
    → ((a : A) → Memᴰ a ys → Memᴰ a xs) → length xs ≡ length ys
same_length xs ys d e f g = omega (arith, distinct_length xs ys d f, distinct_length ys xs e g)

module _ {A : Type 0} (before : A → A → Bool) where
  -- an ascending list behind another, each element of which stands before all of it
  ascends_append : (xs ys : List A) → Ascends before xs → Ascends before ys → ((a : A) → Memᴰ a xs → Heads before a ys)
      → Ascends before (xs ++ ys)
  ascends_append [] ys p q f = q
  ascends_append (x ∷ xs) ys (then_rest u p) q f =
      then_rest
      (λ b m. ⊎_elim (λ (k : Memᴰ b xs). u b k) (λ (k : Memᴰ b ys). f x (Memᴰ.head refl) b k) (Memᴰ.append_cases xs m))
      (ascends_append xs ys p q (λ a m. f a (Memᴰ.tail m)))

  -- an element of an ascending list stands before all later ones
  ascends_later : (xs : List A) (s : A) (ys : List A) → Ascends before (xs ++ (s ∷ ys)) → Heads before s ys
  ascends_later [] s ys (then_rest u p) = u
  ascends_later (x ∷ xs) s ys (then_rest u p) = ascends_later xs s ys p

-- the lists of numbers counted up, split at one of them
concat_split : (f : ℕ → List ℕ) (k b m : ℕ)
    → concat_map f (count_up b (k + m)) ≡ concat_map f (count_up b k) ++ concat_map f (count_up (b + k) m)
concat_split f zero b m = let e : 0 + m ≡ m = omega arith in let g : b + 0 ≡ b = omega arith in rw (e, g)
concat_split f (suc k) b m =
    let e : suc k + m ≡ suc (k + m) = omega arith in
    let g : b + suc k ≡ suc b + k = omega arith in
    rw (e, g, concat_split f k (suc b) m) (sym (append_assoc (f b) (concat_map f (count_up (suc b) k)) (concat_map f (count_up (suc b + k) m))))

-- ---- the order
module _ (n : ℕ) where
  -- of two sets the one with fewer facts comes up first
  fewer_first : (s t : ℕ) → fact_count n s < fact_count n t → comes_first n s t ≡ true
  fewer_first s t h = or_left (eqb (fact_count n s) (fact_count n t) && ltb s t) (lt-ltb _ _ h)

  -- of two sets with as many facts the one with the lower number
  lower_first : (s t : ℕ) → fact_count n s ≡ fact_count n t → s < t → comes_first n s t ≡ true
  lower_first s t e h = or_right (ltb (fact_count n s) (fact_count n t)) (and_intro (eq-eqb _ _ e) (lt-ltb s t h))

  -- a set that comes up first has no more facts
  first_count : (s t : ℕ) → comes_first n s t ≡ true → fact_count n s ≤ fact_count n t
  first_count s t h = go (ltb (fact_count n s) (fact_count n t)) refl h
    where
      go : (b : Bool) → ltb (fact_count n s) (fact_count n t) ≡ b → (b || (eqb (fact_count n s) (fact_count n t) && ltb s t)) ≡ true
          → fact_count n s ≤ fact_count n t
      go true e k = omega (arith, ltb-true (fact_count n s) (fact_count n t) e)
      go false e k = omega (arith, eqb-true (fact_count n s) (fact_count n t) (and_left _ (ltb s t) k))

  -- and where it has as many, a lower number
  first_number : (s t : ℕ) → comes_first n s t ≡ true → fact_count n s ≡ fact_count n t → s < t
  first_number s t h q = go (ltb (fact_count n s) (fact_count n t)) refl h
    where
      go : (b : Bool) → ltb (fact_count n s) (fact_count n t) ≡ b → (b || (eqb (fact_count n s) (fact_count n t) && ltb s t)) ≡ true → s < t
      go true e k = absurd (omega (arith, ltb-true (fact_count n s) (fact_count n t) e))
      go false e k = ltb-true s t (and_right (eqb (fact_count n s) (fact_count n t)) _ k)

  -- the order is strict and total
  abbrev size_order : Order ℕ
  size_order = record {
    before = comes_first n;
    irreflexive = λ a h. omega (arith, first_number a a h refl);
    transitive = λ a b c h k. transitive a b c h k (tested (ltb (fact_count n a) (fact_count n c)));
    total = λ a b h k. neither_below a b (apart a b h k) (apart b a k h);
  }
    where
      transitive : (a b c : ℕ) → comes_first n a b ≡ true → comes_first n b c ≡ true → Tested (ltb (fact_count n a) (fact_count n c))
          → comes_first n a c ≡ true
      transitive a b c h k (passes e) = fewer_first a c (ltb-true _ _ e)
      transitive a b c h k (fails e) =
          let l = ltb-false (fact_count n a) (fact_count n c) e in
          let p : fact_count n a ≡ fact_count n b = omega (arith, first_count a b h, first_count b c k) in
          let q : fact_count n b ≡ fact_count n c = omega (arith, first_count a b h, first_count b c k) in
          lower_first a c (p ∙ q) (omega (arith, first_number a b h p, first_number b c k q))

      apart : (a b : ℕ) → comes_first n a b ≡ false → comes_first n b a ≡ false → a < b → ⊥
      apart a b h k l =
          let x = ltb-false (fact_count n a) (fact_count n b) (or_false _ _ h).0 in
          let y = ltb-false (fact_count n b) (fact_count n a) (or_false _ _ k).0 in
          true_false (comes_first n a b) (lower_first a b (omega arith) l) h

  -- ---- the sets with k facts
  -- each is in their list
  pub size_mem : (k s : ℕ) → s < 2 ^ n → fact_count n s ≡ k → Memᴰ s (sets_of_size n k)
  size_mem k s h e =
      select_mem (λ s. eqb (fact_count n s) k) (count_up 0 (2 ^ n)) (count_up_mem (2 ^ n) 0 s (omega arith) (omega arith)) (eq-eqb _ _ e)

  -- and no other
  pub mem_size : (k : ℕ) {s : ℕ} → Memᴰ s (sets_of_size n k) → (s < 2 ^ n) × (fact_count n s ≡ k)
  mem_size k m =
      let i = mem_select (λ s. eqb (fact_count n s) k) (count_up 0 (2 ^ n)) m in
      (omega (arith, mem_count_up (2 ^ n) 0 i.0), eqb-true _ _ i.1)

  size_ascends : (k m b : ℕ) → Ascends (comes_first n) (select (λ s. eqb (fact_count n s) k) (count_up b m))
  size_ascends k zero b = none_left
  size_ascends k (suc m) b = go (size_ascends k m (suc b)) (eqb (fact_count n b) k) refl
    where
      rest : List ℕ
      rest = select (λ s. eqb (fact_count n s) k) (count_up (suc b) m)

      go : Ascends (comes_first n) rest → (t : Bool) → eqb (fact_count n b) k ≡ t → Ascends (comes_first n) (cond t (b ∷ rest) rest)
      go ih true t =
          then_rest
          (λ s i. let j = mem_select (λ s. eqb (fact_count n s) k) (count_up (suc b) m) i in
          lower_first b s (eqb-true _ k t ∙ sym (eqb-true _ k j.1)) (mem_count_up_from m (suc b) j.0))
          ih
      go ih false t = ih

  -- ---- the sets with fewer than k facts
  -- each comes up
  pub below_mem : (k s : ℕ) → s < 2 ^ n → fact_count n s < k → Memᴰ s (candidates_below n k)
  unfolding candidates_below
  below_mem k s h l =
      concat_map_mem (sets_of_size n) (count_up 0 k) (count_up_mem k 0 (fact_count n s) (omega arith) (omega arith)) (size_mem (fact_count n s) s h refl)

  -- and no other
  pub mem_below : (k : ℕ) {s : ℕ} → Memᴰ s (candidates_below n k) → (s < 2 ^ n) × (fact_count n s < k)
  unfolding candidates_below
  mem_below k m =
      let i = mem_concat_map (sets_of_size n) (count_up 0 k) m in
      let j = mem_size i.0 i.2 in
      (j.0, omega (arith, j.1, mem_count_up k 0 i.1))

  sizes_ascend : (k b : ℕ) → Ascends (comes_first n) (concat_map (sets_of_size n) (count_up b k))
  sizes_ascend zero b = none_left
  sizes_ascend (suc k) b =
      ascends_append (comes_first n) (sets_of_size n b) (concat_map (sets_of_size n) (count_up (suc b) k)) (size_ascends b (2 ^ n) 0) (sizes_ascend k (suc b))
      (λ a m s i. let j = mem_concat_map (sets_of_size n) (count_up (suc b) k) i in
      fewer_first a s (omega (arith, (mem_size b m).1, (mem_size j.0 j.2).1, mem_count_up_from k (suc b) j.1)))

  -- each comes up once, fewer facts first and the lower number on a tie
  pub below_ascend : (k : ℕ) → Ascends (comes_first n) (candidates_below n k)
  unfolding candidates_below
  below_ascend k = sizes_ascend k 0

  -- of those with fewer than k + m facts first come those with fewer than k
  pub below_split : (k m : ℕ) → candidates_below n (k + m) ≡ candidates_below n k ++ concat_map (sets_of_size n) (count_up k m)
  unfolding candidates_below
  below_split k m = let e : 0 + k ≡ k = omega arith in rw e at (concat_split (sets_of_size n) k 0 m)

  -- behind those with fewer than k facts come those with k
  pub below_next : (k : ℕ) → candidates_below n (suc k) ≡ candidates_below n k ++ sets_of_size n k
  below_next k = let e : suc k ≡ k + 1 = omega arith in rw e (below_split k 1 ∙ ap (candidates_below n k ++◌) (append-nil (sets_of_size n k)))

-- ---- every set of n facts
-- each comes up
pub candidates_all : (n s : ℕ) → s < 2 ^ n → Memᴰ s (candidates n)
candidates_all n s h = below_mem n (suc n) s h (omega (arith, count_most n s))

-- and nothing else
pub candidates_only : (n : ℕ) {s : ℕ} → Memᴰ s (candidates n) → s < 2 ^ n
candidates_only n m = (mem_below n (suc n) m).0

-- fewer facts first, and the lower number on a tie
pub candidates_ascend : (n : ℕ) → Ascends (comes_first n) (candidates n)
candidates_ascend n = below_ascend n (suc n)

-- none comes up twice
pub candidates_distinct : (n : ℕ) → Distinct (candidates n)
candidates_distinct n = ascends_distinct (size_order n) (candidates n) (candidates_ascend n)

-- as many of them pass a test as of the numbers below 2 ^ n
pub candidates_select : (n : ℕ) (p : ℕ → Bool) → length (select p (candidates n)) ≡ length (select p (count_up 0 (2 ^ n)))
candidates_select n p =
    same_length (select p (candidates n)) (select p (count_up 0 (2 ^ n))) (distinct_select p (candidates n) (candidates_distinct n))
    (distinct_select p (count_up 0 (2 ^ n)) (count_up_distinct (2 ^ n) 0))
    (λ s m. let i = mem_select p (candidates n) m in
    select_mem p (count_up 0 (2 ^ n)) (count_up_mem (2 ^ n) 0 s (omega arith) (omega (arith, candidates_only n i.0))) i.1)
    (λ s m. let i = mem_select p (count_up 0 (2 ^ n)) m in
    select_mem p (candidates n) (candidates_all n s (omega (arith, mem_count_up (2 ^ n) 0 i.0))) i.1)

-- there are 2 ^ n
pub candidates_length : (n : ℕ) → length (candidates n) ≡ 2 ^ n
candidates_length n =
    ap length (sym (select_all (candidates n))) ∙ candidates_select n (λ s. true) ∙ ap length (select_all (count_up 0 (2 ^ n))) ∙ count_up_length (2 ^ n) 0
  where
    select_all : (xs : List ℕ) → select (λ s. true) xs ≡ xs
    select_all [] = refl
    select_all (x ∷ xs) = ap (x ∷◌) (select_all xs)

-- those with fewer than k facts come up first
pub candidates_split : (n k : ℕ) → k ≤ suc n → candidates n ≡ candidates_below n k ++ concat_map (sets_of_size n) (count_up k (suc n - k))
candidates_split n k h = let e : suc n ≡ k + (suc n - k) = omega arith in ap (candidates_below n) e ∙ below_split n k (suc n - k)

-- before a set comes up, every other that it includes has come up
pub subsets_first : (n : ℕ) (xs : List ℕ) (s : ℕ) (ys : List ℕ) → candidates n ≡ xs ++ (s ∷ ys)
    → (a : ℕ) → Within a s → (a ≡ s → ⊥) → Memᴰ a xs
subsets_first n xs s ys e a w d =
    ⊎_elim (λ (m : Memᴰ a xs). m)
    (λ (m : Memᴰ a (s ∷ ys)).
    ⊎_elim (λ (q : a ≡ s). absurd (d q))
    (λ (k : Memᴰ a ys). absurd (omega (arith, first_count n s a (later a k), count_below n low w d))) (Memᴰ.cases_cons m))
    (Memᴰ.append_cases xs (rw e at (candidates_all n a (omega (arith, within_le w, low)))))
  where
    low : s < 2 ^ n
    low = candidates_only n (subst (Memᴰ s) (sym e) (Memᴰ.append_right xs (Memᴰ.head refl)))

    later : Heads (comes_first n) s ys
    later = ascends_later (comes_first n) xs s ys (rw e at (candidates_ascend n))
