-- Laws of lists of threads: the order in which threads are joined does not matter once they are sorted; a list without one
-- of its threads.
use Rattle.std.specs.Prelude.{◌≡◌, refl, ℕ, zero, suc, ◌+◌, ◌<◌, length, get_or, take, drop}
use Rattle.std.proofs.Common.{sym, ap, ◌∙◌, ⊎_elim, arith, add-one, length-append}
use mathlib.Core.List.Memᴰ
use mathlib.Core.List.{List, [], ◌∷◌, ◌++◌, append-nil, append_assoc, Memᴰ}
use Rattle.move_laws.specs.Lists.{insert_up, sort_up, NotFalling, none_later, none_less}
use Rattle.move_laws.specs.AscendingLaws.{sort_up_same, sort_up_not_falling, sort_up_length}
use Rattle.move_laws.specs.SortingLaws.{insert_up_comm, insert_all, insert_all_sorted}

-- ---- sorting
-- a number in the middle may be inserted last
pub sort_middle : (xs : List ℕ) (y : ℕ) (ys : List ℕ) → sort_up (xs ++ (y ∷ ys)) ≡ insert_up y (sort_up (xs ++ ys))
sort_middle [] y ys = refl
sort_middle (x ∷ xs) y ys = ap (insert_up x) (sort_middle xs y ys) ∙ insert_up_comm x y (sort_up (xs ++ ys))

pub sort_swap : (xs ys : List ℕ) → sort_up (xs ++ ys) ≡ sort_up (ys ++ xs)
sort_swap [] ys = ap sort_up (sym (append-nil ys))
sort_swap (x ∷ xs) ys = ap (insert_up x) (sort_swap xs ys) ∙ sym (sort_middle ys x xs)

-- sorting twice is sorting once
pub sort_sorted : (xs : List ℕ) → sort_up (sort_up xs) ≡ sort_up xs
sort_sorted xs = sort_up_same (sort_up xs) (sort_up_not_falling xs)

-- the threads that stand after may be sorted already
pub sort_inner : (xs ys : List ℕ) → sort_up (xs ++ sort_up ys) ≡ sort_up (xs ++ ys)
sort_inner [] ys = sort_sorted ys
sort_inner (x ∷ xs) ys = ap (insert_up x) (sort_inner xs ys)

-- so may those that stand before
pub sort_outer : (xs ys : List ℕ) → sort_up (sort_up xs ++ ys) ≡ sort_up (xs ++ ys)
sort_outer xs ys = sort_swap (sort_up xs) ys ∙ sort_inner ys xs ∙ sort_swap ys xs

-- three lists, of which the last two were sorted together
pub sort_three : (xs ys zs : List ℕ) → sort_up ((xs ++ ys) ++ zs) ≡ sort_up (xs ++ sort_up (ys ++ zs))
sort_three xs ys zs = ap sort_up (append_assoc xs ys zs) ∙ sym (sort_inner xs (ys ++ zs))

-- threads inserted one after another into a list in ascending order
pub insert_all_sorts : (xs ys : List ℕ) → NotFalling xs → insert_all xs ys ≡ sort_up (ys ++ xs)
insert_all_sorts xs ys n =
    ap (λ (l : List ℕ). insert_all l ys) (sym (sort_up_same xs n)) ∙ insert_all_sorted xs ys ∙ sort_swap xs ys

pub sort_append_length : (xs ys : List ℕ) → length (sort_up (xs ++ ys)) ≡ length xs + length ys
sort_append_length xs ys = sort_up_length (xs ++ ys) ∙ length-append xs ys

-- ---- a list without the element at one place
-- the list without its element at place i, the order kept; the whole list where it has no such place
abbrev pub rest_without : List ℕ → ℕ → List ℕ
rest_without [] i = []
rest_without (t ∷ ts) zero = ts
rest_without (t ∷ ts) (suc i) = t ∷ rest_without ts i

-- what stands before the place, then what stands after it
pub rest_without_parts : (ts : List ℕ) (i : ℕ) → rest_without ts i ≡ take i ts ++ drop (suc i) ts
rest_without_parts [] zero = refl
rest_without_parts [] (suc i) = refl
rest_without_parts (t ∷ ts) zero = refl
rest_without_parts (t ∷ ts) (suc i) = ap (λ (l : List ℕ). t ∷ l) (rest_without_parts ts i)

-- nothing stands there that did not stand in the list
pub rest_without_only : (ts : List ℕ) (i : ℕ) {t : ℕ} → Memᴰ t (rest_without ts i) → Memᴰ t ts
rest_without_only [] i m = m
rest_without_only (x ∷ ts) zero m = Memᴰ.tail m
rest_without_only (x ∷ ts) (suc i) {t} m =
    ⊎_elim (λ (e : t ≡ x). Memᴰ.head e) (λ (k : Memᴰ t (rest_without ts i)). Memᴰ.tail (rest_without_only ts i k))
    (Memᴰ.cases_cons m)

pub rest_without_ascends : (ts : List ℕ) (i : ℕ) → NotFalling ts → NotFalling (rest_without ts i)
rest_without_ascends [] i n = none_later
rest_without_ascends (t ∷ ts) zero (none_less h n) = n
rest_without_ascends (t ∷ ts) (suc i) (none_less h n) = none_less (λ y m. h y (rest_without_only ts i m)) (rest_without_ascends ts i n)

pub rest_without_length : (ts : List ℕ) (i : ℕ) → i < length ts → length (rest_without ts i) + 1 ≡ length ts
rest_without_length [] i h = absurd (omega arith)
rest_without_length (t ∷ ts) zero h = add-one (length ts)
rest_without_length (t ∷ ts) (suc i) h = omega (arith, rest_without_length ts i (omega arith))

-- of two equal neighbours it does not matter which is left out
pub rest_without_same : (ts : List ℕ) (i : ℕ) → i + 1 < length ts → get_or ts i 0 ≡ get_or ts (i + 1) 0 → rest_without ts i ≡ rest_without ts (i + 1)
rest_without_same ts i h e =
    go ts i (omega arith) (e ∙ ap (λ (j : ℕ). get_or ts j 0) (add-one i)) ∙ ap (rest_without ts) (sym (add-one i))
  where
    go : (ts : List ℕ) (i : ℕ) → suc i < length ts → get_or ts i 0 ≡ get_or ts (suc i) 0 → rest_without ts i ≡ rest_without ts (suc i)
    go [] i h e = refl
    go (t ∷ []) i h e = absurd (omega arith)
    go (t ∷ (u ∷ ts)) zero h e = ap (λ (x : ℕ). x ∷ ts) (sym e)
    go (t ∷ (u ∷ ts)) (suc i) h e = ap (λ (l : List ℕ). t ∷ l) (go (u ∷ ts) i (omega arith) e)

-- the thread and the rest, sorted, are the list, sorted
pub rest_without_sort : (ts : List ℕ) (i : ℕ) → i < length ts → insert_up (get_or ts i 0) (sort_up (rest_without ts i)) ≡ sort_up ts
rest_without_sort [] i h = absurd (omega arith)
rest_without_sort (t ∷ ts) zero h = refl
rest_without_sort (t ∷ ts) (suc i) h =
    insert_up_comm (get_or ts i 0) t (sort_up (rest_without ts i)) ∙ ap (insert_up t) (rest_without_sort ts i (omega arith))
