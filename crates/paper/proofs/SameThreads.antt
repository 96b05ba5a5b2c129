-- Lists of threads that are the same up to order: sorted, they are equal.
use Rattle.std.specs.Prelude.{◌≡◌, refl, Bool, true, false, cond, ℕ, eqb, leb}
use Rattle.std.proofs.Common.{sym, ap, ◌∙◌, subst, arith, eq-eqb, ne_eqb, leb-false}
use mathlib.Core.List.{List, [], ◌∷◌, ◌++◌, append-nil, append_assoc, Memᴰ}
use Rattle.comparison_laws.specs.Lists.{insert_up, sort_up}
use Rattle.comparison_laws.specs.AscendingLaws.{sort_up_same, sort_up_not_falling}
use Rattle.comparison_laws.specs.SortingLaws.{insert_up_comm, insert_all, insert_all_sorted}

-- the same threads, each as often, in any order
pub record SameThreads (xs ys : List ℕ) : Type 0 where
  pub sorted : sort_up xs ≡ sort_up ys

pub same_refl : (xs : List ℕ) → SameThreads xs xs
same_refl xs = record { sorted = refl }

pub same_sym : {xs ys : List ℕ} → SameThreads xs ys → SameThreads ys xs
same_sym h = record { sorted = sym h.sorted }

pub same_trans : {xs ys zs : List ℕ} → SameThreads xs ys → SameThreads ys zs → SameThreads xs zs
same_trans h k = record { sorted = h.sorted ∙ k.sorted }

pub same_equal : {xs ys : List ℕ} → xs ≡ ys → SameThreads xs ys
same_equal e = record { sorted = ap sort_up e }

-- sorting changes the order only
pub same_sorted : (xs : List ℕ) → SameThreads xs (sort_up xs)
same_sorted xs = record { sorted = sym (sort_up_same (sort_up xs) (sort_up_not_falling xs)) }

-- ---- lists joined
-- a thread in the middle
pub sort_up_middle : (ys : List ℕ) (x : ℕ) (xs : List ℕ) → sort_up (ys ++ (x ∷ xs)) ≡ insert_up x (sort_up (ys ++ xs))
sort_up_middle [] x xs = refl
sort_up_middle (y ∷ ys) x xs = ap (insert_up y) (sort_up_middle ys x xs) ∙ insert_up_comm y x (sort_up (ys ++ xs))

pub sort_up_swap : (xs ys : List ℕ) → sort_up (xs ++ ys) ≡ sort_up (ys ++ xs)
sort_up_swap [] ys = ap sort_up (sym (append-nil ys))
sort_up_swap (x ∷ xs) ys = ap (insert_up x) (sort_up_swap xs ys) ∙ sym (sort_up_middle ys x xs)

sort_up_left : (xs ys zs : List ℕ) → sort_up xs ≡ sort_up ys → sort_up (xs ++ zs) ≡ sort_up (ys ++ zs)
sort_up_left xs ys zs e = sym (insert_all_sorted xs zs) ∙ ap (λ (l : List ℕ). insert_all l zs) e ∙ insert_all_sorted ys zs

pub same_swap : (xs ys : List ℕ) → SameThreads (xs ++ ys) (ys ++ xs)
same_swap xs ys = record { sorted = sort_up_swap xs ys }

pub same_left : {xs ys : List ℕ} (zs : List ℕ) → SameThreads xs ys → SameThreads (xs ++ zs) (ys ++ zs)
same_left {xs} {ys} zs h = record { sorted = sort_up_left xs ys zs h.sorted }

pub same_right : (zs : List ℕ) {xs ys : List ℕ} → SameThreads xs ys → SameThreads (zs ++ xs) (zs ++ ys)
same_right zs {xs} {ys} h = same_trans (same_swap zs xs) (same_trans (same_left zs h) (same_swap ys zs))

pub same_middle : (ys : List ℕ) (x : ℕ) (xs : List ℕ) → SameThreads (x ∷ (ys ++ xs)) (ys ++ (x ∷ xs))
same_middle ys x xs = record { sorted = sym (sort_up_middle ys x xs) }

pub same_assoc : (xs ys zs : List ℕ) → SameThreads ((xs ++ ys) ++ zs) (xs ++ (ys ++ zs))
same_assoc xs ys zs = same_equal (append_assoc xs ys zs)

-- ---- one thread taken out
-- the list without its first a
abbrev removed : ℕ → List ℕ → List ℕ
removed a [] = []
removed a (x ∷ xs) = let r = removed a xs in cond (eqb a x) xs (x ∷ r)

remove_insert : (a : ℕ) (xs : List ℕ) → removed a (insert_up a xs) ≡ xs
remove_insert a [] = rw (eq-eqb a a refl)
remove_insert a (x ∷ xs) = go (remove_insert a xs) (leb a x) refl
  where
    go : removed a (insert_up a xs) ≡ xs → (t : Bool) → leb a x ≡ t → removed a (cond t (a ∷ x ∷ xs) (x ∷ insert_up a xs)) ≡ x ∷ xs
    go ih true e = rw (eq-eqb a a refl)
    go ih false e =
        let n : a ≡ x → ⊥ = λ q. omega (arith, leb-false a x e) in
        rw (ne_eqb a x n) (ap (λ (l : List ℕ). x ∷ l) ih)

-- without the same thread, the rests are the same
pub same_rest : {x : ℕ} {xs ys : List ℕ} → SameThreads (x ∷ xs) (x ∷ ys) → SameThreads xs ys
same_rest {x} {xs} {ys} h =
    record { sorted = sym (remove_insert x (sort_up xs)) ∙ ap (removed x) h.sorted ∙ remove_insert x (sort_up ys) }

insert_up_in : (a : ℕ) (xs : List ℕ) → Memᴰ a (insert_up a xs)
insert_up_in a [] = Memᴰ.head refl
insert_up_in a (x ∷ xs) = go (insert_up_in a xs) (leb a x)
  where
    go : Memᴰ a (insert_up a xs) → (t : Bool) → Memᴰ a (cond t (a ∷ x ∷ xs) (x ∷ insert_up a xs))
    go ih true = Memᴰ.head refl
    go ih false = Memᴰ.tail ih

-- a thread of the one is in the other, sorted
pub same_in : {x : ℕ} {xs ys : List ℕ} → SameThreads (x ∷ xs) ys → Memᴰ x (sort_up ys)
same_in {x} {xs} {ys} h = subst (λ (l : List ℕ). Memᴰ x l) h.sorted (insert_up_in x (sort_up xs))
