-- One element more at the end: of numbers in ascending order, where the order of insertion does not matter, and of lists
-- that are joined.
use Rattle.std.specs.Prelude.{◌≡◌, refl, Bool, true, false, cond, List, [], ◌∷◌, ◌++◌, ℕ, ◌+◌, ◌<◌, length, get_or, take, drop, leb}
use Rattle.std.proofs.Common.{sym, subst, ap, ◌∙◌, append-nil, append_assoc, arith, add-one, length-drop, take-suc, get_or-drop, leb-true, leb-false}
use Rattle.std.proofs.Math.Seq.{append_snoc}
use Rattle.std.proofs.lemmas.Bool.{lt-leb}
use Rattle.lists.specs.Lists.{insert_up, sort_up, NotFalling, concat_map}
use Rattle.list_laws.specs.AscendingLaws.{sort_up_same, sort_up_not_falling}

pub insert_up_comm : (a b : ℕ) (xs : List ℕ) → insert_up a (insert_up b xs) ≡ insert_up b (insert_up a xs)
insert_up_comm a b [] = go (leb a b) (leb b a) refl refl
  where
    go : (r t : Bool) → leb a b ≡ r → leb b a ≡ t → cond r (a ∷ b ∷ []) (b ∷ a ∷ []) ≡ cond t (b ∷ a ∷ []) (a ∷ b ∷ [])
    go true true e f = let s : a ≡ b = omega (arith, leb-true a b e, leb-true b a f) in rw s
    go true false e f = refl
    go false true e f = refl
    go false false e f = absurd (omega (arith, leb-false a b e, leb-false b a f))
insert_up_comm a b (x ∷ xs) = go (insert_up_comm a b xs) (leb a x) (leb b x) (leb a b) (leb b a) refl refl refl refl
  where
    go : insert_up a (insert_up b xs) ≡ insert_up b (insert_up a xs) → (p q r t : Bool) → leb a x ≡ p → leb b x ≡ q → leb a b ≡ r → leb b a ≡ t
        → insert_up a (insert_up b (x ∷ xs)) ≡ insert_up b (insert_up a (x ∷ xs))
    go ih true true true true e f g h =
        let s : a ≡ b = omega (arith, leb-true a b g, leb-true b a h) in
        subst (λ (y : ℕ). insert_up y (insert_up b (x ∷ xs)) ≡ insert_up b (insert_up y (x ∷ xs))) (sym s) refl
    go ih true true true false e f g h = simp (e, f, g, h)
    go ih true true false true e f g h = simp (e, f, g, h)
    go ih true true false false e f g h = absurd (omega (arith, leb-false a b g, leb-false b a h))
    go ih true false r t e f g h =
        let u : leb b a ≡ false = lt-leb b a (omega (arith, leb-true a x e, leb-false b x f)) in
        simp (e, f, u)
    go ih false true r t e f g h =
        let u : leb a b ≡ false = lt-leb a b (omega (arith, leb-true b x f, leb-false a x e)) in
        simp (e, f, u)
    go ih false false r t e f g h = simp (e, f) (ap (λ (l : List ℕ). x ∷ l) ih)

-- one number more, at the end
pub sort_up_next : (xs : List ℕ) (x : ℕ) → sort_up (xs ++ (x ∷ [])) ≡ insert_up x (sort_up xs)
sort_up_next [] x = refl
sort_up_next (y ∷ ys) x = ap (insert_up y) (sort_up_next ys x) ∙ insert_up_comm y x (sort_up ys)

-- the lists of all elements, with one element more
pub concat_map_next : {A B : Type 0} (f : A → List B) (xs : List A) (x : A) → concat_map f (xs ++ (x ∷ [])) ≡ concat_map f xs ++ f x
concat_map_next f [] x = append-nil (f x)
concat_map_next {A} {B} f (y ∷ ys) x = ap (λ (l : List B). f y ++ l) (concat_map_next f ys x) ∙ sym (append_assoc (f y) (concat_map f ys) (f x))

-- ---- numbers inserted one after another
abbrev pub insert_all : List ℕ → List ℕ → List ℕ
insert_all xs [] = xs
insert_all xs (y ∷ ys) = insert_all (insert_up y xs) ys

pub insert_all_next : (xs ys : List ℕ) (y : ℕ) → insert_all xs (ys ++ (y ∷ [])) ≡ insert_up y (insert_all xs ys)
insert_all_next xs [] y = refl
insert_all_next xs (z ∷ ys) y = insert_all_next (insert_up z xs) ys y

pub insert_all_sorted : (xs ys : List ℕ) → insert_all (sort_up xs) ys ≡ sort_up (xs ++ ys)
insert_all_sorted xs [] = ap sort_up (sym (append-nil xs))
insert_all_sorted xs (y ∷ ys) =
    ap (λ (l : List ℕ). insert_all l ys) (sym (sort_up_next xs y))
    ∙ insert_all_sorted (xs ++ (y ∷ [])) ys
    ∙ ap sort_up (append_snoc xs y ys)

-- insertion keeps the order
pub insert_up_ascends : (x : ℕ) (xs : List ℕ) → NotFalling xs → NotFalling (insert_up x xs)
insert_up_ascends x xs n = rw (sort_up_same xs n) at (sort_up_not_falling (x ∷ xs))

-- ---- numbers of a table, from a place on, put one after another among the first n of a list
pub inserted_next : (xs threads more table : List ℕ) (n i at : ℕ) → at + i < length table → NotFalling (take (n + i) threads)
    → take (n + i) threads ≡ insert_all xs (take i (drop at table)) → take (n + i + 1) more ≡ insert_up (get_or table (at + i) 0) (take (n + i) threads)
    → NotFalling (take (n + (i + 1)) more) × (take (n + (i + 1)) more ≡ insert_all xs (take (i + 1) (drop at table)))
inserted_next xs threads more table n i at l up inv new =
    let s : n + (i + 1) ≡ n + i + 1 = omega arith in
    let part : List ℕ = drop at table in
    let one : take (i + 1) part ≡ take i part ++ (get_or table (at + i) 0 ∷ []) =
    ap (λ (m : ℕ). take m part) (add-one i)
    ∙ take-suc part i 0 (simp length-drop (omega arith))
    ∙ ap (λ (t : ℕ). take i part ++ (t ∷ [])) (get_or-drop at table i 0) in
    rw s (
      rw new (insert_up_ascends (get_or table (at + i) 0) (take (n + i) threads) up),
      new ∙ ap (insert_up (get_or table (at + i) 0)) inv ∙ sym (ap (insert_all xs) one ∙ insert_all_next xs (take i part) (get_or table (at + i) 0)),
    )
