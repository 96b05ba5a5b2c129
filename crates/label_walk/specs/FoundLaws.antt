-- What is found: with one more fact, where nothing more is found, by tests that agree, and by the search of document 02.
use Rattle.std.specs.Prelude.{◌≡◌, Bool, true, false, not, ◌&&◌, ◌||◌, List, [], ◌++◌, ℕ, zero, suc, ◌+◌, ◌-◌, ◌^◌, ◌≤◌, ◌<◌, ltb, length}
use Rattle.std.proofs.Math.Path.{refl}
use Rattle.std.proofs.Common.{sym, ap, ap₂, ◌∙◌, append-nil, arith, add-one, length-append, ltb-true, ltb-false}
use Rattle.digit_lists.specs.Lists.{select}
use Rattle.digit_lists.specs.Members.{select_mem, any_mem}
use Rattle.set_digits.specs.TestLaws.{Tested, passes, fails, tested, and_intro, or_left, or_right, not_passes}
use Rattle.digit_lists.specs.Stores.{includes}
use Rattle.set_digits.specs.FactSetLaws.{within_refl}
use Rattle.digit_lists.specs.StoreLaws.{within_includes}
use Rattle.set_digits.specs.Sheet.{Sheet}
use Rattle.set_digits.specs.OrderedSearch.{fact_count, sets_of_size, is_covered, qualifies, candidates_below, search_over, search_below}
use Rattle.set_digits.specs.CandidateLaws.{mem_size, size_mem}
use Rattle.set_digits.specs.SearchLaws.{search_size}
use Rattle.label_walk.specs.LabelWalk.{found_below, found_in}
use Rattle.label_walk.specs.SelectLaws.{select_alike, select_none, any_append}

-- the sets with k facts that are found after others
abbrev pub found_after : (ℕ → Bool) → ℕ → ℕ → List ℕ → List ℕ
found_after p n k found = select (λ s. p s && not (is_covered found s)) (sets_of_size n k)

module _ (p : ℕ → Bool) (n : ℕ) where
  -- nothing is found at first
  pub found_first : found_below p n 0 ≡ []
  unfolding found_below
  found_first = refl

  -- one fact more
  pub found_next : (k : ℕ) → found_below p n (k + 1) ≡ found_below p n k ++ found_after p n k (found_below p n k)
  unfolding found_below
  found_next k = rw (add-one k)

  found_longer : (k j : ℕ) → length (found_below p n k) ≤ length (found_below p n (k + j))
  found_longer k zero = let e : k + 0 ≡ k = omega arith in rw e (omega arith)
  found_longer k (suc j) =
      let e : k + suc j ≡ (k + j) + 1 = omega arith in
      rw (e, found_next (k + j), length-append) (omega (arith, found_longer k j))

  -- what is found among the sets with fewer facts is no more than the whole
  pub found_room : (k : ℕ) → k ≤ suc n → length (found_below p n k) ≤ length (found_in p n)
  found_room k h = let e : k + (suc n - k) ≡ suc n = omega arith in rw e at (found_longer k (suc n - k))

  -- where each set that passes includes one that is found, nothing more is found
  module _ (k : ℕ) (covered : (s : ℕ) → s < 2 ^ n → p s ≡ true → is_covered (found_below p n k) s ≡ true) where
    none_after : (j : ℕ) → found_after p n j (found_below p n k) ≡ []
    none_after j =
        select_none (λ s. p s && not (is_covered (found_below p n k) s)) (sets_of_size n j)
        (λ s m. go s (p s) (λ q. covered s (mem_size n j m).0 q))
      where
        go : (s : ℕ) (t : Bool) → (t ≡ true → is_covered (found_below p n k) s ≡ true) → (t && not (is_covered (found_below p n k) s)) ≡ false
        go s true f = rw (f refl)
        go s false f = refl

    none_more : (j : ℕ) → found_below p n (k + j) ≡ found_below p n k
    none_more zero = let e : k + 0 ≡ k = omega arith in rw e
    none_more (suc j) =
        let e : k + suc j ≡ (k + j) + 1 = omega arith in
        rw (e, found_next (k + j), none_more j, none_after (k + j)) (append-nil (found_below p n k))

-- where each set that passes includes one found among the sets with fewer than k facts, these are the whole
pub found_ended : (p : ℕ → Bool) (n k : ℕ) → k ≤ suc n → ((s : ℕ) → s < 2 ^ n → p s ≡ true → is_covered (found_below p n k) s ≡ true)
    → found_below p n k ≡ found_in p n
found_ended p n k h covered = let e : k + (suc n - k) ≡ suc n = omega arith in sym (rw e at (none_more p n k covered (suc n - k)))

-- a set that passes and has fewer than k facts includes one found among those
pub found_covers : (p : ℕ → Bool) (n k s : ℕ) → s < 2 ^ n → p s ≡ true → fact_count n s < k → is_covered (found_below p n k) s ≡ true
unfolding found_below
found_covers p n zero s l t h = absurd (omega arith)
found_covers p n (suc k) s l t h =
    any_append (λ b. includes s b) (found_below p n k) (found_after p n k (found_below p n k))
    ∙ go (found_covers p n k s l t) (tested (ltb (fact_count n s) k)) (tested (is_covered (found_below p n k) s))
  where
    go : (fact_count n s < k → is_covered (found_below p n k) s ≡ true) → Tested (ltb (fact_count n s) k) → Tested (is_covered (found_below p n k) s)
        → (is_covered (found_below p n k) s || is_covered (found_after p n k (found_below p n k)) s) ≡ true
    go ih (passes f) c = or_left (is_covered (found_after p n k (found_below p n k)) s) (ih (ltb-true (fact_count n s) k f))
    go ih (fails f) (passes c) = or_left (is_covered (found_after p n k (found_below p n k)) s) c
    go ih (fails f) (fails c) =
        or_right (is_covered (found_below p n k) s)
        (any_mem (λ b. includes s b) (found_after p n k (found_below p n k))
        (select_mem (λ b. p b && not (is_covered (found_below p n k) b)) (sets_of_size n k)
        (size_mem n k s l (omega (arith, ltb-false (fact_count n s) k f))) (and_intro t (not_passes c)))
        (within_includes (within_refl s)))

-- where each set that passes and includes none that is found has at least k + j facts, no more is found among those with fewer
pub found_skip : (p : ℕ → Bool) (n k j : ℕ)
    → ((s : ℕ) → s < 2 ^ n → p s ≡ true → is_covered (found_below p n k) s ≡ false → k + j ≤ fact_count n s)
    → found_below p n (k + j) ≡ found_below p n k
found_skip p n k zero h = let e : k + 0 ≡ k = omega arith in rw e
found_skip p n k (suc j) h =
    let e : k + suc j ≡ (k + j) + 1 = omega arith in
    rw (e, found_next p n (k + j), found_skip p n k j (λ s l t c. omega (arith, h s l t c)), none) (append-nil (found_below p n k))
  where
    none : found_after p n (k + j) (found_below p n k) ≡ []
    none =
        select_none (λ s. p s && not (is_covered (found_below p n k) s)) (sets_of_size n (k + j))
        (λ s m. go s (mem_size n (k + j) m) (tested (p s)) (tested (is_covered (found_below p n k) s)))
      where
        go : (s : ℕ) → (s < 2 ^ n) × (fact_count n s ≡ k + j) → Tested (p s) → Tested (is_covered (found_below p n k) s)
            → (p s && not (is_covered (found_below p n k) s)) ≡ false
        go s m (fails t) c = rw t
        go s m (passes t) (passes c) = rw (t, c)
        go s m (passes t) (fails c) = absurd (omega (arith, m.1, h s m.0 t c))

-- tests that agree find the same
pub found_same : (p q : ℕ → Bool) (n k : ℕ) → ((s : ℕ) → s < 2 ^ n → p s ≡ q s) → found_below p n k ≡ found_below q n k
unfolding found_below
found_same p q n zero h = refl
found_same p q n (suc k) h =
    ap₂ (λ (x y : List ℕ). x ++ y) (found_same p q n k h)
    (ap (found_after p n k) (found_same p q n k h)
    ∙ select_alike (λ s. p s && not (is_covered (found_below q n k) s)) (λ s. q s && not (is_covered (found_below q n k) s)) (sets_of_size n k)
    (λ s m. ap (λ (t : Bool). t && not (is_covered (found_below q n k) s)) (h s (mem_size n k m).0)))

-- the search finds the same as the sets that qualify come up
pub found_search : (sheet : Sheet) (d c k : ℕ) → k ≤ suc sheet.facts
    → (search_below sheet d c k).found ≡ found_below (qualifies sheet d c) sheet.facts k
unfolding found_below candidates_below search_over
found_search sheet d c zero h = refl
found_search sheet d c (suc k) h =
    search_size sheet d c k (omega arith)
    ∙ ap (λ (found : List ℕ). found ++ found_after (qualifies sheet d c) sheet.facts k found) (found_search sheet d c k (omega arith))
