-- How many classes a numbering has. A finer test has at least as many classes as a coarser one, and more where the numbers
-- differ.
use Rattle.std.specs.Prelude.{◌≡◌, ◌⊎◌, Bool, true, false, cond, ℕ, suc, ◌+◌, ◌≤◌, ◌<◌, length, get_or, eqb, ltb}
use Rattle.std.proofs.Math.Path.{refl}
use Rattle.std.proofs.Common.{sym, ap, ap₂, ◌∙◌, subst, inr, ⊎_elim, length-append, eqb-true, ltb-true, ltb-false}
use Rattle.std.proofs.Math.Logic.{inl}
use mathlib.Core.List.Memᴰ
use mathlib.Core.List.{List, [], ◌∷◌, ◌++◌, Memᴰ}
use native.Mathlib.Omega.{arith}
use Rattle.std.proofs.Math.ListN.{get_or-append}
use Rattle.std.proofs.Math.Seq.{get_or-append_seam}
use Rattle.std.proofs.lemmas.Bool.{eqb-false}
use Rattle.move_laws.specs.TestLaws.{Tested, tested, passes, fails}
use Rattle.move_laws.specs.ListPlaces.{get_d_in}
use Rattle.comparison.specs.Classes.{position, numbered_from, numbered}
use Rattle.comparison_laws.specs.ClassLaws.{position_le, position_found, position_at, position_first}

module _ {A : Type 0} where
  -- the first members of classes after p
  abbrev pub with_first : (A → A → Bool) → List A → A → List A
  with_first test firsts p = cond (eqb (position (λ f. test f p) firsts) (length firsts)) (firsts ++ (p ∷ [])) firsts

  -- the first members of classes after all
  unfoldable pub firsts_after : (A → A → Bool) → List A → List A → List A
  firsts_after test firsts [] = firsts
  firsts_after test firsts (p ∷ ps) = firsts_after test (with_first test firsts p) ps

  -- the number of classes
  abbrev pub class_count : (A → A → Bool) → List A → ℕ
  class_count test ps = length (firsts_after test [] ps)

  snoc_length : (xs : List A) (x : A) → length (xs ++ (x ∷ [])) ≡ suc (length xs)
  snoc_length xs x = let e : length (xs ++ (x ∷ [])) ≡ length xs + 1 = length-append xs (x ∷ []) in omega arith

  with_first_length : (test : A → A → Bool) (firsts : List A) (p : A)
      → (length firsts ≤ length (with_first test firsts p)) × (length (with_first test firsts p) ≤ suc (length firsts))
  with_first_length test firsts p = go (eqb (position (λ f. test f p) firsts) (length firsts))
    where
      go : (b : Bool) → (length firsts ≤ length (cond b (firsts ++ (p ∷ [])) firsts)) × (length (cond b (firsts ++ (p ∷ [])) firsts) ≤ suc (length firsts))
      go true = (omega (arith, snoc_length firsts p), omega (arith, snoc_length firsts p))
      go false = (omega arith, omega arith)

  -- no more classes than elements, and at least one where there is an element
  pub firsts_after_few : (test : A → A → Bool) (firsts ps : List A) → length (firsts_after test firsts ps) ≤ length firsts + length ps
  unfolding firsts_after
  firsts_after_few test firsts [] = omega arith
  firsts_after_few test firsts (p ∷ ps) = omega (arith, firsts_after_few test (with_first test firsts p) ps, (with_first_length test firsts p).1)

  firsts_after_more : (test : A → A → Bool) (firsts ps : List A) → length firsts ≤ length (firsts_after test firsts ps)
  unfolding firsts_after
  firsts_after_more test firsts [] = omega arith
  firsts_after_more test firsts (p ∷ ps) = omega (arith, firsts_after_more test (with_first test firsts p) ps, (with_first_length test firsts p).0)

  pub class_count_some : (test : A → A → Bool) (p : A) (ps : List A) → 1 ≤ class_count test (p ∷ ps)
  unfolding firsts_after
  class_count_some test p ps = firsts_after_more test (p ∷ []) ps

  pub class_count_few : (test : A → A → Bool) (ps : List A) → class_count test ps ≤ length ps
  class_count_few test ps = omega (arith, firsts_after_few test [] ps)

  -- ---- a finer test against a coarser one, on elements of a kind on which the coarser is an equivalence
  module _ (In : A → Type 0) (fine coarse : A → A → Bool)
      (finer : (a b : A) → In a → In b → fine a b ≡ true → coarse a b ≡ true)
      (refl-coarse : (a : A) → In a → coarse a a ≡ true)
      (sym-coarse : (a b : A) → In a → In b → coarse a b ≡ true → coarse b a ≡ true)
      (trans-coarse : (a b c : A) → In a → In b → In c → coarse a b ≡ true → coarse b c ≡ true → coarse a c ≡ true) where
    abbrev AllIn : List A → Type 0
    AllIn xs = (a : A) → Memᴰ a xs → In a

    in_snoc : (xs : List A) (x : A) → AllIn xs → In x → AllIn (xs ++ (x ∷ []))
    in_snoc xs x f i a m =
        ⊎_elim (λ (k : Memᴰ a xs). f a k) (λ (k : Memᴰ a (x ∷ [])). subst In (sym (Memᴰ.eq_of_singleton k)) i) (Memᴰ.append_cases xs m)

    -- every element of the first list is in a coarse class of the second
    abbrev Covered : List A → List A → Type 0
    Covered xs ys = (f : A) → Memᴰ f xs → position (λ g. coarse g f) ys < length ys

    -- one that is new for the coarse test is new for the fine one
    new_new : (xs ys : List A) (p : A) → AllIn xs → AllIn ys → In p → Covered xs ys
        → position (λ g. coarse g p) ys ≡ length ys → position (λ f. fine f p) xs ≡ length xs
    new_new xs ys p ix iy ip cov e = go (tested (ltb (position (λ f. fine f p) xs) (length xs)))
      where
        go : Tested (ltb (position (λ f. fine f p) xs) (length xs)) → position (λ f. fine f p) xs ≡ length xs
        go (fails h) = omega (arith, ltb-false (position (λ f. fine f p) xs) (length xs) h, position_le (λ f. fine f p) xs)
        go (passes h) =
            let x = position_at (λ f. fine f p) xs p (ltb-true (position (λ f. fine f p) xs) (length xs) h) in
            let f : A = get_or xs (position (λ f. fine f p) xs) p in
            let i : In f = ix f x.0 in
            let y = position_at (λ g. coarse g f) ys p (cov f x.0) in
            let g : A = get_or ys (position (λ g. coarse g f) ys) p in
            let l = position_found (λ g. coarse g p) ys {a = g} y.0 (trans-coarse g f p (iy g y.0) i ip y.1 (finer f p i ip x.1)) in
            absurd (omega (arith, l, e))

    covered_more : (xs ys : List A) (p : A) → Covered xs ys → Covered xs (ys ++ (p ∷ []))
    covered_more xs ys p cov f m =
        omega (arith, position_first (λ g. coarse g f) ys (p ∷ []) (cov f m), cov f m, snoc_length ys p)

    -- the fine test stays ahead
    ahead : (k : ℕ) (xs ys ps : List A) → AllIn xs → AllIn ys → AllIn ps → Covered xs ys → length ys + k ≤ length xs
        → length (firsts_after coarse ys ps) + k ≤ length (firsts_after fine xs ps)
    unfolding firsts_after
    ahead k xs ys [] ix iy ip cov h = h
    ahead k xs ys (p ∷ ps) ix iy ip cov h =
        go (λ us vs iu iv c. ahead k us vs ps iu iv (λ a m. ip a (Memᴰ.tail m)) c)
        (eqb (position (λ f. fine f p) xs) (length xs)) refl (eqb (position (λ g. coarse g p) ys) (length ys)) refl
      where
        here : In p
        here = ip p (Memᴰ.head refl)

        go : ((us vs : List A) → AllIn us → AllIn vs → Covered us vs → length vs + k ≤ length us → length (firsts_after coarse vs ps) + k ≤ length (firsts_after fine us ps))
            → (a : Bool) → eqb (position (λ f. fine f p) xs) (length xs) ≡ a → (b : Bool) → eqb (position (λ g. coarse g p) ys) (length ys) ≡ b
            → length (firsts_after coarse (cond b (ys ++ (p ∷ [])) ys) ps) + k ≤ length (firsts_after fine (cond a (xs ++ (p ∷ [])) xs) ps)
        go ih true a true b =
            ih (xs ++ (p ∷ [])) (ys ++ (p ∷ [])) (in_snoc xs p ix here) (in_snoc ys p iy here)
            (λ f m. ⊎_elim (λ (i : Memᴰ f xs). covered_more xs ys p cov f i)
            (λ (i : Memᴰ f (p ∷ [])).
            position_found (λ g. coarse g f) (ys ++ (p ∷ [])) {a = p} (Memᴰ.append_right ys (Memᴰ.head refl))
            (subst (λ (x : A). coarse p x ≡ true) (sym (Memᴰ.eq_of_singleton i)) (refl-coarse p here)))
            (Memᴰ.append_cases xs m))
            (omega (arith, snoc_length xs p, snoc_length ys p))
        go ih true a false b =
            ih (xs ++ (p ∷ [])) ys (in_snoc xs p ix here) iy
            (λ f m. ⊎_elim (λ (i : Memᴰ f xs). cov f i)
            (λ (i : Memᴰ f (p ∷ [])).
            subst (λ (x : A). position (λ g. coarse g x) ys < length ys) (sym (Memᴰ.eq_of_singleton i))
            (omega (arith, position_le (λ g. coarse g p) ys, eqb-false (position (λ g. coarse g p) ys) (length ys) b)))
            (Memᴰ.append_cases xs m))
            (omega (arith, snoc_length xs p))
        go ih false a true b =
            absurd (eqb-false (position (λ f. fine f p) xs) (length xs) a
            (new_new xs ys p ix iy here cov (eqb-true (position (λ g. coarse g p) ys) (length ys) b)))
        go ih false a false b = ih xs ys ix iy cov h

    -- no two of the first members are together for the coarse test
    abbrev Apart : List A → Type 0
    Apart xs = (d : A) (i j : ℕ) → i < length xs → j < length xs → coarse (get_or xs i d) (get_or xs j d) ≡ true → i ≡ j

    -- the same first members on both sides: the numbers stay the same, or the fine test gets ahead
    level_or_ahead : (xs ps : List A) → AllIn xs → AllIn ps → Apart xs
        → (numbered_from fine xs ps ≡ numbered_from coarse xs ps) ⊎ (length (firsts_after coarse xs ps) < length (firsts_after fine xs ps))
    unfolding numbered_from firsts_after
    level_or_ahead xs [] ix ip ap-xs = inl refl
    level_or_ahead xs (p ∷ ps) ix ip ap-xs =
        go (λ us iu au. level_or_ahead us ps iu (λ a m. ip a (Memᴰ.tail m)) au)
        (eqb (position (λ f. fine f p) xs) (length xs)) refl (eqb (position (λ g. coarse g p) xs) (length xs)) refl
      where
        here : In p
        here = ip p (Memᴰ.head refl)

        covered : Covered xs xs
        covered f m = position_found (λ g. coarse g f) xs {a = f} m (refl-coarse f (ix f m))

        -- the number of one that is not new is the same on both sides
        same_number : position (λ f. fine f p) xs < length xs → position (λ f. fine f p) xs ≡ position (λ g. coarse g p) xs
        same_number l =
            let x = position_at (λ f. fine f p) xs p l in
            let f : A = get_or xs (position (λ f. fine f p) xs) p in
            let c : coarse f p ≡ true = finer f p (ix f x.0) here x.1 in
            let l2 : position (λ g. coarse g p) xs < length xs = position_found (λ g. coarse g p) xs {a = f} x.0 c in
            let y = position_at (λ g. coarse g p) xs p l2 in
            let g : A = get_or xs (position (λ g. coarse g p) xs) p in
            sym (ap-xs p (position (λ g. coarse g p) xs) (position (λ f. fine f p) xs) l2 l
            (trans-coarse g p f (ix g y.0) here (ix f x.0) y.1 (sym-coarse f p (ix f x.0) here c)))

        -- a new first member is apart from the others
        apart_snoc : position (λ g. coarse g p) xs ≡ length xs → Apart (xs ++ (p ∷ []))
        apart_snoc e d i j li lj h = cases (eqb i (length xs)) refl (eqb j (length xs)) refl
          where
            at_end : get_or (xs ++ (p ∷ [])) (length xs) d ≡ p
            at_end = get_or-append_seam xs p [] d

            not_found : (k : ℕ) → k < length xs → coarse (get_or xs k d) p ≡ true → ⊥
            not_found k l q =
                let f = position_found (λ g. coarse g p) xs {a = get_or xs k d} (get_d_in xs k d l) q in
                omega (arith, f, e)

            cases : (s : Bool) → eqb i (length xs) ≡ s → (t : Bool) → eqb j (length xs) ≡ t → i ≡ j
            cases true s true t = eqb-true i (length xs) s ∙ sym (eqb-true j (length xs) t)
            cases true s false t =
                let l : j < length xs = omega (arith, lj, snoc_length xs p, eqb-false j (length xs) t) in
                let q : coarse p (get_or xs j d) ≡ true =
                subst (λ (y : A). coarse p y ≡ true) (get_or-append xs (p ∷ []) d j l)
                (subst (λ (y : A). coarse y (get_or (xs ++ (p ∷ [])) j d) ≡ true) (ap (λ (n : ℕ). get_or (xs ++ (p ∷ [])) n d) (eqb-true i (length xs) s) ∙ at_end) h) in
                absurd (not_found j l (sym-coarse p (get_or xs j d) here (ix (get_or xs j d) (get_d_in xs j d l)) q))
            cases false s true t =
                let l : i < length xs = omega (arith, li, snoc_length xs p, eqb-false i (length xs) s) in
                absurd (not_found i l
                (subst (λ (y : A). coarse y p ≡ true) (get_or-append xs (p ∷ []) d i l)
                (subst (λ (y : A). coarse (get_or (xs ++ (p ∷ [])) i d) y ≡ true) (ap (λ (n : ℕ). get_or (xs ++ (p ∷ [])) n d) (eqb-true j (length xs) t) ∙ at_end) h)))
            cases false s false t =
                let l : i < length xs = omega (arith, li, snoc_length xs p, eqb-false i (length xs) s) in
                let k : j < length xs = omega (arith, lj, snoc_length xs p, eqb-false j (length xs) t) in
                ap-xs d i j l k
                (subst (λ (y : A). coarse y (get_or xs j d) ≡ true) (get_or-append xs (p ∷ []) d i l)
                (subst (λ (y : A). coarse (get_or (xs ++ (p ∷ [])) i d) y ≡ true) (get_or-append xs (p ∷ []) d j k) h))

        go : ((us : List A) → AllIn us → Apart us → (numbered_from fine us ps ≡ numbered_from coarse us ps) ⊎ (length (firsts_after coarse us ps) < length (firsts_after fine us ps)))
            → (a : Bool) → eqb (position (λ f. fine f p) xs) (length xs) ≡ a → (b : Bool) → eqb (position (λ g. coarse g p) xs) (length xs) ≡ b
            → ((position (λ f. fine f p) xs ∷ numbered_from fine (cond a (xs ++ (p ∷ [])) xs) ps) ≡ (position (λ g. coarse g p) xs ∷ numbered_from coarse (cond b (xs ++ (p ∷ [])) xs) ps))
            ⊎ (length (firsts_after coarse (cond b (xs ++ (p ∷ [])) xs) ps) < length (firsts_after fine (cond a (xs ++ (p ∷ [])) xs) ps))
        go ih true a true b =
            ⊎_elim
            (λ (e : numbered_from fine (xs ++ (p ∷ [])) ps ≡ numbered_from coarse (xs ++ (p ∷ [])) ps).
            inl (ap₂ (λ (n : ℕ) (l : List ℕ). n ∷ l) (eqb-true (position (λ f. fine f p) xs) (length xs) a ∙ sym (eqb-true (position (λ g. coarse g p) xs) (length xs) b)) e))
            (λ (l : length (firsts_after coarse (xs ++ (p ∷ [])) ps) < length (firsts_after fine (xs ++ (p ∷ [])) ps)). inr l)
            (ih (xs ++ (p ∷ [])) (in_snoc xs p ix here) (apart_snoc (eqb-true (position (λ g. coarse g p) xs) (length xs) b)))
        go ih true a false b =
            inr (shift (ahead 1 (xs ++ (p ∷ [])) xs ps (in_snoc xs p ix here) ix (λ q m. ip q (Memᴰ.tail m))
            (λ f m. ⊎_elim (λ (i : Memᴰ f xs). covered f i)
            (λ (i : Memᴰ f (p ∷ [])).
            subst (λ (x : A). position (λ g. coarse g x) xs < length xs) (sym (Memᴰ.eq_of_singleton i))
            (omega (arith, position_le (λ g. coarse g p) xs, eqb-false (position (λ g. coarse g p) xs) (length xs) b)))
            (Memᴰ.append_cases xs m))
            (omega (arith, snoc_length xs p))))
          where
            shift : length (firsts_after coarse xs ps) + 1 ≤ length (firsts_after fine (xs ++ (p ∷ [])) ps) → length (firsts_after coarse xs ps) < length (firsts_after fine (xs ++ (p ∷ [])) ps)
            shift h = omega arith
        go ih false a true b =
            absurd (eqb-false (position (λ f. fine f p) xs) (length xs) a
            (new_new xs xs p ix ix here covered (eqb-true (position (λ g. coarse g p) xs) (length xs) b)))
        go ih false a false b =
            ⊎_elim
            (λ (e : numbered_from fine xs ps ≡ numbered_from coarse xs ps).
            inl (ap₂ (λ (n : ℕ) (l : List ℕ). n ∷ l)
            (same_number (omega (arith, position_le (λ f. fine f p) xs, eqb-false (position (λ f. fine f p) xs) (length xs) a))) e))
            (λ (l : length (firsts_after coarse xs ps) < length (firsts_after fine xs ps)). inr l)
            (ih xs ix ap-xs)

    -- the numbers are the same, or the finer test has more classes
    pub same_or_more : (ps : List A) → AllIn ps → (numbered fine ps ≡ numbered coarse ps) ⊎ (class_count coarse ps < class_count fine ps)
    same_or_more ps ip = level_or_ahead [] ps (λ a m. absurd (Memᴰ.not-nil m)) ip (λ d i j li lj h. absurd (omega arith))
