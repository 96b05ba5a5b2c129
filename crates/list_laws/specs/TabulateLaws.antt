-- Lists given by their elements: membership, repeats, ascending order, and insertion at a known place.
use Rattle.std.specs.Prelude.{◌≡◌, Bool, length, get_or, take, drop, eqb}
use Rattle.std.proofs.Math.Path.{refl, sym, ap, subst}
use Rattle.std.proofs.Common.{ap₂, ◌∙◌, length-drop, take-suc, get_or-drop}
use Rattle.std.proofs.Math.Logic.{⊎_elim}
use Rattle.std.proofs.Math.Bool.{true, false}
use mathlib.Core.List.{List, [], ◌∷◌, ◌++◌, append_assoc, append-nil, Memᴰ}
use Prim.Native.Nat.{ℕ, zero, suc, ◌+◌, ◌-◌, ◌≤◌, ◌<◌}
use native.Mathlib.Omega.{arith}
use Rattle.std.proofs.Math.Dec.{ltb}
use Rattle.std.proofs.Math.Seq.{append_snoc}
use borrow.Author.Tests.{ltb-true, ltb-false, eqb-true, eq-eqb}
use Rattle.list_laws.specs.TestLaws.{true_false}
use Rattle.list_laws.specs.Tabulate.{tabulate, tabulate_next, tabulate_same, tabulate_length}
use Rattle.lists.specs.Lists.{any, Distinct, no_elements, one_more, Ascends, none_left, then_rest, enter, place}
use Rattle.list_laws.specs.Members.{any_yes, any_no}
use Rattle.list_laws.specs.Counting.{distinct_append, distinct_length}
use Rattle.list_laws.specs.AscendingLaws.{Order, ascends_head, ascends_tail}

module _ {A : Type 0} (f : ℕ → A) where
  -- the elements below the count are in the list
  pub mem_tabulate : (n i : ℕ) → i < n → Memᴰ (f i) (tabulate f n)
  unfolding tabulate
  mem_tabulate zero i h = absurd (omega arith)
  mem_tabulate (suc n) i h = go (mem_tabulate n i) (ltb i n) refl
    where
      go : (i < n → Memᴰ (f i) (tabulate f n)) → (b : Bool) → ltb i n ≡ b → Memᴰ (f i) (tabulate f n ++ (f n ∷ []))
      go ih true e = mathlib.Core.List.Memᴰ.append_left (f n ∷ []) (ih (ltb-true i n e))
      go ih false e =
          let l : n ≤ i = ltb-false i n e in
          let q : i ≡ n = omega arith in
          mathlib.Core.List.Memᴰ.append_right (tabulate f n) (mathlib.Core.List.Memᴰ.head (ap f q))

  -- and no others
  pub tabulate_mem : (n : ℕ) {a : A} → Memᴰ a (tabulate f n) → (i : ℕ) × (i < n) × (a ≡ f i)
  unfolding tabulate
  tabulate_mem zero m = absurd (mathlib.Core.List.Memᴰ.not-nil m)
  tabulate_mem (suc n) {a} m =
      ⊎_elim (λ (k : Memᴰ a (tabulate f n)). let i = tabulate_mem n k in (i.0, omega (arith, i.1), i.2))
      (λ (k : Memᴰ a (f n ∷ [])).
      ⊎_elim (λ (e : a ≡ f n). (n, omega arith, e)) (λ (z : Memᴰ a []). absurd (mathlib.Core.List.Memᴰ.not-nil z)) (mathlib.Core.List.Memᴰ.cases_cons k))
      (mathlib.Core.List.Memᴰ.append_cases (tabulate f n) m)

  -- the first m, then k more
  pub tabulate_add : (m k : ℕ) → tabulate f (m + k) ≡ tabulate f m ++ tabulate (λ j. f (m + j)) k
  unfolding tabulate
  tabulate_add m zero =
      let e : m + 0 ≡ m = omega arith in
      ap (tabulate f) e ∙ sym (append-nil (tabulate f m))
  tabulate_add m (suc k) =
      let e : m + suc k ≡ m + k + 1 = omega arith in
      ap (tabulate f) e ∙ tabulate_next f (m + k)
      ∙ ap (λ (l : List A). l ++ (f (m + k) ∷ [])) (tabulate_add m k)
      ∙ append_assoc (tabulate f m) (tabulate (λ j. f (m + j)) k) (f (m + k) ∷ [])

  -- no repeats where no two places below the count have one element
  pub distinct_tabulate : (n : ℕ) → ((i j : ℕ) → i < n → j < n → f i ≡ f j → i ≡ j) → Distinct (tabulate f n)
  unfolding tabulate
  distinct_tabulate zero h = no_elements
  distinct_tabulate (suc n) h =
      distinct_append (tabulate f n) (f n ∷ []) (distinct_tabulate n (λ i j l m. h i j (omega arith) (omega arith)))
      (one_more mathlib.Core.List.Memᴰ.not-nil no_elements)
      (λ a m k.
      let i = tabulate_mem n m in
      let e : a ≡ f n = ⊎_elim (λ (q : a ≡ f n). q) (λ (z : Memᴰ a []). absurd (mathlib.Core.List.Memᴰ.not-nil z)) (mathlib.Core.List.Memᴰ.cases_cons k) in
      let q : i.0 ≡ n = h i.0 n (omega (arith, i.1)) (omega arith) (sym i.2 ∙ e) in
      absurd (omega (arith, i.1, q)))

-- numbers below n at n places, none twice: every number below n stands somewhere
pub all_placed : (f : ℕ → ℕ) (n : ℕ) → ((i : ℕ) → i < n → f i < n) → ((i j : ℕ) → i < n → j < n → f i ≡ f j → i ≡ j)
    → (k : ℕ) → k < n → (i : ℕ) × (i < n) × (k ≡ f i)
all_placed f n b h k l = go (any (eqb k) (tabulate f n)) refl
  where
    below : (a : ℕ) → Memᴰ a (k ∷ tabulate f n) → Memᴰ a (tabulate (λ i. i) n)
    below a m =
        ⊎_elim (λ (e : a ≡ k). subst (λ (z : ℕ). Memᴰ z (tabulate (λ i. i) n)) (sym e) (mem_tabulate (λ i. i) n k l))
        (λ (j : Memᴰ a (tabulate f n)).
        let i = tabulate_mem f n j in
        subst (λ (z : ℕ). Memᴰ z (tabulate (λ i. i) n)) (sym i.2) (mem_tabulate (λ i. i) n (f i.0) (b i.0 i.1)))
        (mathlib.Core.List.Memᴰ.cases_cons m)

    go : (t : Bool) → any (eqb k) (tabulate f n) ≡ t → (i : ℕ) × (i < n) × (k ≡ f i)
    go true e =
        let a = any_yes (eqb k) (tabulate f n) e in
        let i = tabulate_mem f n a.1 in
        (i.0, i.1, eqb-true k a.0 a.2 ∙ i.2)
    go false e =
        let apart : Memᴰ k (tabulate f n) → ⊥ = λ m. true_false (eqb k k) (eq-eqb k k refl) (any_no (eqb k) (tabulate f n) e m) in
        let d : length (k ∷ tabulate f n) ≤ length (tabulate (λ i. i) n) =
        distinct_length (k ∷ tabulate f n) (tabulate (λ i. i) n) (one_more apart (distinct_tabulate f n h)) below in
        absurd (omega (arith, d, tabulate_length f n, tabulate_length {A = ℕ} (λ i. i) n))

module _ {A : Type 0} (O : Order A) where
  open O use {before, irreflexive, transitive, total}

  -- all but the last ascend, and stand before the last
  split_last : (xs : List A) (y : A) → Ascends O.before (xs ++ (y ∷ [])) → Ascends O.before xs × ((x : A) → Memᴰ x xs → before x y ≡ true)
  split_last [] y s = (none_left, λ x m. absurd (mathlib.Core.List.Memᴰ.not-nil m))
  split_last (x ∷ xs) y s =
      let i = split_last xs y (ascends_tail O s) in (
        then_rest (λ b m. ascends_head O s b (mathlib.Core.List.Memᴰ.append_left (y ∷ []) m)) i.0,
        λ b m.
            ⊎_elim (λ (e : b ≡ x). subst (λ (z : A). before z y ≡ true) (sym e) (ascends_head O s y (mathlib.Core.List.Memᴰ.append_right xs (mathlib.Core.List.Memᴰ.head refl))))
            (λ (k : Memᴰ b xs). i.1 b k) (mathlib.Core.List.Memᴰ.cases_cons m),
      )

  -- an earlier place has the element that stands before
  pub ascends_at : (f : ℕ → A) (n : ℕ) → Ascends O.before (tabulate f n) → (i j : ℕ) → i < j → j < n → before (f i) (f j) ≡ true
  unfolding tabulate
  ascends_at f zero s i j h k = absurd (omega arith)
  ascends_at f (suc n) s i j h k = go (ascends_at f n (split_last (tabulate f n) (f n) s).0 i j h) (ltb j n) refl
    where
      go : (j < n → before (f i) (f j) ≡ true) → (b : Bool) → ltb j n ≡ b → before (f i) (f j) ≡ true
      go ih true e = ih (ltb-true j n e)
      go ih false e =
          let l : n ≤ j = ltb-false j n e in
          let q : n ≡ j = omega arith in
          subst (λ (z : ℕ). before (f i) (f z) ≡ true) q ((split_last (tabulate f n) (f n) s).1 (f i) (mem_tabulate f n i (omega arith)))

  -- and no two places have one element
  pub ascends_apart : (f : ℕ → A) (n : ℕ) → Ascends O.before (tabulate f n) → (i j : ℕ) → i < n → j < n → f i ≡ f j → i ≡ j
  ascends_apart f n s i j h k e = go (ltb i j) refl (ltb j i) refl
    where
      go : (u : Bool) → ltb i j ≡ u → (v : Bool) → ltb j i ≡ v → i ≡ j
      go true u v w =
          absurd (irreflexive (f j) (subst (λ (z : A). before z (f j) ≡ true) e (ascends_at f n s i j (ltb-true i j u) k)))
      go false u true w =
          absurd (irreflexive (f j) (subst (λ (z : A). before (f j) z ≡ true) e (ascends_at f n s j i (ltb-true j i w) h)))
      go false u false w =
          let a : j ≤ i = ltb-false i j u in
          let b : i ≤ j = ltb-false j i w in
          omega arith

  pub not_after : (a b : A) → before a b ≡ true → before b a ≡ false
  not_after a b h = go (before b a) refl
    where
      go : (t : Bool) → before b a ≡ t → t ≡ false
      go true e = absurd (irreflexive a (transitive a b a h e))
      go false e = refl

  not_self : (a : A) → before a a ≡ false
  not_self a = go (before a a) refl
    where
      go : (t : Bool) → before a a ≡ t → t ≡ false
      go true e = absurd (irreflexive a e)
      go false e = refl

  enter_first : (a : A) (ys : List A) → ((y : A) → Memᴰ y ys → before a y ≡ true) → enter O.before a ys ≡ a ∷ ys
  enter_first a [] h = refl
  enter_first a (y ∷ ys) h = ap (λ (b : Bool). place b (before y a) a y ys (enter O.before a ys)) (h y (mathlib.Core.List.Memᴰ.head refl))

  -- put in between those before it and those after it
  pub enter_between : (a : A) (xs ys : List A) → ((x : A) → Memᴰ x xs → before x a ≡ true) → ((y : A) → Memᴰ y ys → before a y ≡ true)
      → enter O.before a (xs ++ ys) ≡ xs ++ (a ∷ ys)
  enter_between a [] ys h k = enter_first a ys k
  enter_between a (x ∷ xs) ys h k =
      let e = h x (mathlib.Core.List.Memᴰ.head refl) in
      ap₂ (λ (b c : Bool). place b c a x (xs ++ ys) (enter O.before a (xs ++ ys))) (not_after x a e) e
      ∙ ap (λ (l : List A). x ∷ l) (enter_between a xs ys (λ z m. h z (mathlib.Core.List.Memᴰ.tail m)) k)

  -- nothing changes where it stands already
  pub enter_there : (a : A) (xs : List A) → Ascends O.before xs → Memᴰ a xs → enter O.before a xs ≡ xs
  enter_there a [] s m = absurd (mathlib.Core.List.Memᴰ.not-nil m)
  enter_there a (x ∷ xs) s m =
      ⊎_elim (λ (e : a ≡ x).
      ap₂ (λ (b c : Bool). place b c a x xs (enter O.before a xs)) (ap (before a) (sym e) ∙ not_self a) (ap (λ (z : A). before z a) (sym e) ∙ not_self a))
      (λ (k : Memᴰ a xs).
      let e = ascends_head O s a k in
      ap₂ (λ (b c : Bool). place b c a x xs (enter O.before a xs)) (not_after x a e) e
      ∙ ap (λ (l : List A). x ∷ l) (enter_there a xs (ascends_tail O s) k))
      (mathlib.Core.List.Memᴰ.cases_cons m)

  -- the elements from a place on moved up by one, and a put there
  pub enter_tabulate : (f g : ℕ → A) (a : A) (at n : ℕ) → at ≤ n
      → ((j : ℕ) → j < at → before (f j) a ≡ true) → ((j : ℕ) → at ≤ j → j < n → before a (f j) ≡ true)
      → ((j : ℕ) → j < at → g j ≡ f j) → g at ≡ a → ((j : ℕ) → at ≤ j → j < n → g (j + 1) ≡ f j)
      → tabulate g (n + 1) ≡ enter O.before a (tabulate f n)
  enter_tabulate f g a at n h low high left mid right =
      let k : ℕ = n - at in
      let u : at + 1 + k ≡ n + 1 = omega arith in
      let v : at + k ≡ n = omega arith in
      let tail : List A = tabulate (λ j. f (at + j)) k in
      let whole : tabulate f n ≡ tabulate f at ++ tail = ap (tabulate f) (sym v) ∙ tabulate_add f at k in
      ap (tabulate g) (sym u)
      ∙ tabulate_add g (at + 1) k
      ∙ ap₂ (λ (l r : List A). l ++ r)
      (tabulate_next g at ∙ ap₂ (λ (l : List A) (x : A). l ++ (x ∷ [])) (tabulate_same g f at left) mid)
      (tabulate_same (λ j. g (at + 1 + j)) (λ j. f (at + j)) k
      (λ j z. let q : at + 1 + j ≡ at + j + 1 = omega arith in ap g q ∙ right (at + j) (omega arith) (omega arith)))
      ∙ append_snoc (tabulate f at) a tail
      ∙ sym (enter_between a (tabulate f at) tail
      (λ x m. let i = tabulate_mem f at m in subst (λ (z : A). before z a ≡ true) (sym i.2) (low i.0 i.1))
      (λ y m. let i = tabulate_mem (λ j. f (at + j)) k m in
      subst (λ (z : A). before a z ≡ true) (sym i.2) (high (at + i.0) (omega arith) (omega (arith, i.1)))))
      ∙ ap (enter O.before a) (sym whole)

-- a part of a list by its elements
pub part_tabulate : (w : List ℕ) (from n : ℕ) → from + n ≤ length w → take n (drop from w) ≡ tabulate (λ j. get_or w (from + j) 0) n
unfolding tabulate
part_tabulate w from zero h = refl
part_tabulate w from (suc n) h =
    take-suc (drop from w) n 0 (simp length-drop (omega arith))
    ∙ ap₂ (λ (l : List ℕ) (x : ℕ). l ++ (x ∷ [])) (part_tabulate w from n (omega arith)) (get_or-drop from w n 0)
