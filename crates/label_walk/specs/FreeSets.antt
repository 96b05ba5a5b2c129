-- How many sets include none of some sets: by one set, and by the sets that stay marked.
use Rattle.std.specs.Prelude.{◌≡◌, refl, Bool, true, false, cond, not, ◌||◌, List, [], ◌∷◌, ℕ, ◌+◌, ◌-◌, ◌*◌, ◌^◌, ◌≤◌, ◌<◌, eqb, ltb, length}
use Rattle.std.proofs.Common.{sym, ap, ◌∙◌, inr, arith, lt-ltb, le-ltb}
use Rattle.digit_lists.specs.Lists.{select}
use Rattle.set_digits.specs.Frames.{outside_part}
use Rattle.digit_lists.specs.Stores.{includes}
use Rattle.set_digits.specs.Moves.{count_up}
use Rattle.set_digits.specs.LabelLaws.{mem_count_up, count_up_length}
use Rattle.set_digits.specs.OrderedSearch.{fact_count, is_covered}
use Rattle.set_digits.specs.SizeLaws.{count_most}
use Rattle.set_digits.specs.SupersetLaws.{supersets_count}
use Rattle.set_digits.specs.SetDigits.{bit, words_of, mark, Marked, marked_sets}
use Rattle.set_digits.specs.MarkedLaws.{words_sets}
use Rattle.digit_lists.specs.SizeSplit.{count_wider}
use Rattle.label_walk.specs.LabelWalk.{numbers_at, free_sets}
use Rattle.label_walk.specs.SelectLaws.{select_alike, select_parts, select_below}
use Rattle.label_walk.specs.ClearedSets.{Cleared}

-- those that include one of the sets and those that are free of them are all
free_rest : (found : List ℕ) (n : ℕ) → length (select (is_covered found) (count_up 0 (2 ^ n))) + length (free_sets found n) ≡ 2 ^ n
free_rest found n = select_parts (is_covered found) (count_up 0 (2 ^ n)) ∙ count_up_length (2 ^ n) 0

-- the free ones are no more than all
pub free_fits : (found : List ℕ) (n : ℕ) → length (free_sets found n) ≤ 2 ^ n
free_fits found n = omega (arith, free_rest found n)

-- a set of n facts has at most n
pub count_fits : (n a : ℕ) → n ≤ 16 → a < 2 ^ n → fact_count 16 a ≤ n
count_fits n a few h = omega (arith, count_wider n 16 a few h, count_most n a)

-- the sets that do not include a
pub free_of : (n a : ℕ) → n ≤ 16 → a < 2 ^ n → length (free_sets (a ∷ []) n) ≡ 2 ^ n - 2 ^ (n - fact_count 16 a)
free_of n a few h =
    let above : length (select (is_covered (a ∷ [])) (count_up 0 (2 ^ n))) ≡ 2 ^ (n - fact_count 16 a) =
    ap length (select_alike (is_covered (a ∷ [])) (λ s. includes s a) (count_up 0 (2 ^ n)) (λ s m. alone (includes s a))) ∙ supersets_count n a h
    ∙ ap (λ (k : ℕ). 2 ^ (n - k)) (sym (count_wider n 16 a few h)) in
    omega (arith, above, free_rest (a ∷ []) n)
  where
    alone : (t : Bool) → (t || false) ≡ t
    alone true = refl
    alone false = refl

-- where all sets of so many facts were marked and those that include one of some were cleared, the free ones are marked
pub free_marked : (facts words left at n : ℕ) (u v w : List ℕ) → words ≡ words_of facts → left + words_of facts ≤ at
    → Marked left (words_of facts) u v (λ s. bit (ltb s (2 ^ facts))) → Cleared left words at n v w
    → marked_sets w left words ≡ free_sets (numbers_at u at n) facts
free_marked facts words left at n u v w e apart all cleared =
    select_below (λ s. eqb (mark w left s) 1) (2 ^ facts) (32 * words) (omega (arith, words_sets facts))
    (λ s l m. ap (λ (x : ℕ). eqb x 1) (marks s m (le-ltb s (2 ^ facts) l)) ∙ none (is_covered (numbers_at v at n) s))
    ∙ select_alike (λ s. eqb (mark w left s) 1) (λ s. not (is_covered (numbers_at u at n) s)) (count_up 0 (2 ^ facts))
    (λ s m.
    let l : s < 2 ^ facts = omega (arith, mem_count_up (2 ^ facts) 0 m) in
    ap (λ (x : ℕ). eqb x 1) (marks s (omega (arith, words_sets facts)) (lt-ltb s (2 ^ facts) l)) ∙ one (is_covered (numbers_at v at n) s)
    ∙ ap (λ (ys : List ℕ). not (is_covered ys s)) (outside_part all.same at n (inr apart)))
  where
    marks : (s : ℕ) → s < 32 * words → {t : Bool} → ltb s (2 ^ facts) ≡ t → mark w left s ≡ cond (is_covered (numbers_at v at n) s) 0 (bit t)
    marks s l t = cleared.digits s l ∙ ap (cond (is_covered (numbers_at v at n) s) 0) (all.digits s (omega arith) ∙ ap bit t)

    none : (t : Bool) → eqb (cond t 0 0) 1 ≡ false
    none true = refl
    none false = refl

    one : (t : Bool) → eqb (cond t 0 1) 1 ≡ not t
    one true = refl
    one false = refl
