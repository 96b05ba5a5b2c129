-- Laws of a list stored into another from a place on.
use Rattle.std.specs.Prelude.{◌≡◌, refl, List, [], ◌∷◌, ◌++◌, ℕ, suc, ◌+◌, ◌-◌, ◌≤◌, ◌<◌, length, get_or, set, take, drop}
use Rattle.std.proofs.Common.{sym, ap, ◌∙◌, append_assoc, add-one, arith, length-take, length-drop, get_or-set_other, get_or-drop, take-suc, drop_at, length-take-le}
use Rattle.std.proofs.lemmas.List.Edits.{sets, sets-eq}
use Rattle.std.proofs.lemmas.List.{drop-set-add, take-set-le}
use Rattle.std.proofs.Math.Seq.{take-append_seam}

-- what is stored after what was stored
pub sets_append : (l : List ℕ) (at : ℕ) (xs ys : List ℕ) → sets (sets l at xs) (at + length xs) ys ≡ sets l at (xs ++ ys)
sets_append l at [] ys = ap (λ (i : ℕ). sets l i ys) (omega arith)
sets_append l at (x ∷ xs) ys =
    let e : at + suc (length xs) ≡ suc at + length xs = omega arith in
    ap (λ (i : ℕ). sets (sets (set l at x) (suc at) xs) i ys) e ∙ sets_append (set l at x) (suc at) xs ys

-- a part that ends before the place stays
part_set : (l : List ℕ) (from n at x : ℕ) → from + n ≤ at → take n (drop from (set l at x)) ≡ take n (drop from l)
part_set l from n at x h =
    let e : at ≡ from + (at - from) = omega arith in
    ap (λ (i : ℕ). take n (drop from (set l i x))) e
    ∙ ap (take n) (drop-set-add from l (at - from) x)
    ∙ take-set-le n (drop from l) (at - from) x (omega arith)

pub part_sets : (l : List ℕ) (from n at : ℕ) (xs : List ℕ) → from + n ≤ at
    → take n (drop from (sets l at xs)) ≡ take n (drop from l)
part_sets l from n at [] h = refl
part_sets l from n at (x ∷ xs) h = part_sets (set l at x) from n (suc at) xs (omega arith) ∙ part_set l from n at x h

-- what was stored stands there
pub stored_part : (l : List ℕ) (at : ℕ) (xs : List ℕ) → at + length xs ≤ length l → take (length xs) (drop at (sets l at xs)) ≡ xs
stored_part l at xs h =
    rw (sets-eq xs l at h, append_assoc (take at l) xs (drop (at + length xs) l))
    (ap (take (length xs)) (drop_at (take at l) (xs ++ drop (at + length xs) l) at (length-take-le at l (omega arith)))
    ∙ take-append_seam xs (drop (at + length xs) l))

-- a number before the place stays
pub get_d_sets : (l : List ℕ) (at : ℕ) (xs : List ℕ) (j : ℕ) → j < at → get_or (sets l at xs) j 0 ≡ get_or l j 0
get_d_sets l at [] j h = refl
get_d_sets l at (x ∷ xs) j h = get_d_sets (set l at x) (suc at) xs j (omega arith) ∙ get_or-set_other l at j x 0 (omega arith)

-- a loop that copies numbers to a later place, from the i-th to the next
pub copied_next : (l : List ℕ) (from to i : ℕ) → from + i < to → from + i < length l
    → set (sets l to (take i (drop from l))) (to + i) (get_or (sets l to (take i (drop from l))) (from + i) 0)
    ≡ sets l to (take (i + 1) (drop from l))
copied_next l from to i h k =
    let part : List ℕ = drop from l in
    let long : length (take i part) ≡ i = simp (length-take, length-drop) (omega arith) in
    let read : get_or (sets l to (take i part)) (from + i) 0 ≡ get_or part i 0 =
    get_d_sets l to (take i part) (from + i) h ∙ sym (get_or-drop from l i 0) in
    let one : take (i + 1) part ≡ take i part ++ (get_or part i 0 ∷ []) =
    ap (λ (m : ℕ). take m part) (add-one i) ∙ take-suc part i 0 (simp length-drop (omega arith)) in
    ap (set (sets l to (take i part)) (to + i)) read
    ∙ ap (λ (m : ℕ). set (sets l to (take i part)) (to + m) (get_or part i 0)) (sym long)
    ∙ sets_append l to (take i part) (get_or part i 0 ∷ [])
    ∙ ap (sets l to) (sym one)
