-- How many classes a list of class numbers stands for.
use Rattle.std.specs.Prelude.{◌≡◌, refl, ◌↔◌, ◌⊎◌, ℕ, zero, suc, ◌≤◌, ◌<◌, length, get_or, eqb, ltb}
use Rattle.std.proofs.Common.{sym, ◌∙◌, subst, inl, inr, arith, eqb-true, eq-eqb, ltb-true, ltb-false}
use mathlib.Core.List.{List, map, Memᴰ}
use Rattle.std.proofs.lemmas.List.{length-map}
use Rattle.comparison_laws.specs.Lists.{Distinct, arrange}
use Rattle.work_layout.specs.TestLaws.{Tested, tested, passes, fails, neither_below}
use Rattle.comparison_laws.specs.Members.{mem_map}
use Rattle.comparison_laws.specs.ListPlaces.{get_d_in}
use Rattle.comparison_laws.specs.AscendingLaws.{arrange_ascends, arrange_keeps, arrange_only, number_order}
use Rattle.comparison_laws.specs.Counting.{distinct_length, ascends_distinct, distinct_map_on}
use Rattle.work_layout.specs.Tabulate.{tabulate, tabulate_length}
use Rattle.work_layout.specs.TabulateLaws.{mem_tabulate, tabulate_mem, distinct_tabulate}
use Rattle.comparison_laws.specs.Classes.{position, class_total}
use Rattle.comparison_laws.specs.Promise.{NumberedByFirst}
use Rattle.comparison_laws.specs.ClassLaws.{position_found, position_at}

each_once : (numbers : List ℕ) → Distinct (arrange ltb numbers)
each_once numbers = ascends_distinct number_order (arrange ltb numbers) (arrange_ascends number_order numbers)

-- there are no more classes than members
pub total_few : (numbers : List ℕ) → class_total numbers ≤ length numbers
total_few numbers = distinct_length (arrange ltb numbers) numbers (each_once numbers) (λ a m. arrange_only number_order numbers m)

-- where the numbers in use are those below a count, the total is the count
pub total_is : (numbers : List ℕ) (count : ℕ) → ((c : ℕ) → Memᴰ c numbers → c < count) → ((c : ℕ) → c < count → Memᴰ c numbers)
    → class_total numbers ≡ count
total_is numbers count below used =
    let own : ℕ → ℕ = λ i. i in
    let long : length (tabulate own count) ≡ count = tabulate_length own count in
    let most : class_total numbers ≤ length (tabulate own count) =
    distinct_length (arrange ltb numbers) (tabulate own count) (each_once numbers)
    (λ a m. mem_tabulate own count a (below a (arrange_only number_order numbers m))) in
    let least : length (tabulate own count) ≤ class_total numbers =
    distinct_length (tabulate own count) (arrange ltb numbers) (distinct_tabulate own count (λ i j h k e. e))
    (λ a m. let i = tabulate_mem own count m in
    arrange_keeps number_order numbers (used a (subst (λ (c : ℕ). c < count) (sym i.2) i.1))) in
    omega (arith, long, most, least)

-- a number stands at the first place that has it
first_at_lem : (xs : List ℕ) {c : ℕ} → Memᴰ c xs → (position (eqb c) xs < length xs) × (get_or xs (position (eqb c) xs) 0 ≡ c)
first_at_lem xs {c} m =
    let l = position_found (eqb c) xs m (eq-eqb c c refl) in
    (l, sym (eqb-true c (get_or xs (position (eqb c) xs) 0) (position_at (eqb c) xs 0 l).1))

-- ---- numbers by first member
-- what the first i members use: the numbers below a count
record UsedBy (numbers : List ℕ) (i : ℕ) : Type 0 where
  pub count : ℕ
  pub below : (j : ℕ) → j < i → get_or numbers j 0 < count
  pub used : (c : ℕ) → c < count → (j : ℕ) × (j < i) × (get_or numbers j 0 ≡ c)

-- one member more, whose number is below the count too
one_more_below : (numbers : List ℕ) {i count : ℕ} → ((j : ℕ) → j < i → get_or numbers j 0 < count) → get_or numbers i 0 < count
    → (j : ℕ) → j < suc i → get_or numbers j 0 < count
one_more_below numbers {i} {count} below here j l = go (tested (ltb j i))
  where
    go : Tested (ltb j i) → get_or numbers j 0 < count
    go (passes t) = below j (ltb-true j i t)
    go (fails t) = let e : i ≡ j = omega (arith, l, ltb-false j i t) in subst (λ (k : ℕ). get_or numbers k 0 < count) e here

module _ (numbers : List ℕ) (by_first : NumberedByFirst numbers) where
  used_by : (i : ℕ) → i ≤ length numbers → UsedBy numbers i
  used_by zero h = record { count = 0; below = λ j l. absurd (omega arith); used = λ c l. absurd (omega arith) }
  used_by (suc i) h = go (used_by i (omega arith)) (by_first.at i (omega arith))
    where
      go : UsedBy numbers i
          → ((j : ℕ) × (j < i) × (get_or numbers j 0 ≡ get_or numbers i 0))
          ⊎ (((j : ℕ) → j < i → get_or numbers j 0 ≡ get_or numbers i 0 → ⊥)
          × ((c : ℕ) → c < get_or numbers i 0 → (j : ℕ) × (j < i) × (get_or numbers j 0 ≡ c)))
          → UsedBy numbers (suc i)
      go u (inl x) =
          record {
            count = u.count;
            below = one_more_below numbers u.below (omega (arith, x.2, u.below x.0 x.1));
            used = λ c l. let j = u.used c l in (j.0, omega (arith, j.1), j.2);
          }
      go u (inr x) =
          let next : get_or numbers i 0 ≡ u.count =
          neither_below (get_or numbers i 0) u.count
          (λ l. let j = u.used (get_or numbers i 0) l in x.0 j.0 j.1 j.2)
          (λ l. let j = x.1 u.count l in omega (arith, j.2, u.below j.0 j.1)) in
          record {
            count = suc u.count;
            below = one_more_below numbers (λ j l. omega (arith, u.below j l)) (omega (arith, next));
            used = λ c l. last next c l (tested (ltb c u.count));
          }
        where
          last : get_or numbers i 0 ≡ u.count → (c : ℕ) → c < suc u.count → Tested (ltb c u.count)
              → (j : ℕ) × (j < suc i) × (get_or numbers j 0 ≡ c)
          last next c l (passes t) = let j = u.used c (ltb-true c u.count t) in (j.0, omega (arith, j.1), j.2)
          last next c l (fails t) = (i, omega arith, omega (arith, next, l, ltb-false c u.count t))

  -- the numbers in use are those below the total
  pub total_in_use : (c : ℕ) → (c < class_total numbers) ↔ Memᴰ c numbers
  total_in_use c =
      let u = used_by (length numbers) (omega arith) in
      let below : (d : ℕ) → Memᴰ d numbers → d < u.count =
      λ d m. let i = first_at_lem numbers m in subst (λ (k : ℕ). k < u.count) i.1 (u.below (position (eqb d) numbers) i.0) in
      let used : (d : ℕ) → d < u.count → Memᴰ d numbers =
      λ d l. let j = u.used d l in subst (λ (k : ℕ). Memᴰ k numbers) j.2 (get_d_in numbers j.0 0 j.1) in
      let e = total_is numbers u.count below used in
      ((λ l. used c (omega (arith, l, e))), (λ m. omega (arith, below c m, e)))

-- ---- one division finer than another
module _ (fine coarse : List ℕ) (long : length fine ≡ length coarse)
    (finer : (i j : ℕ) → i < length fine → j < length fine → get_or fine i 0 ≡ get_or fine j 0 → get_or coarse i 0 ≡ get_or coarse j 0) where
  -- the fine class of the first member that has a coarse one
  abbrev fine_of : ℕ → ℕ
  fine_of c = get_or fine (position (eqb c) coarse) 0

  first_place : (c : ℕ) → Memᴰ c coarse → (position (eqb c) coarse < length fine) × (get_or coarse (position (eqb c) coarse) 0 ≡ c)
  first_place c m = let x = first_at_lem coarse m in (omega (arith, x.0, long), x.1)

  -- the finer has no fewer classes
  pub total_finer : class_total coarse ≤ class_total fine
  total_finer =
      let cs : List ℕ = arrange ltb coarse in
      let apart : Distinct (map fine_of cs) =
      distinct_map_on fine_of cs (each_once coarse)
      (λ a b ma mb e.
      let x = first_place a (arrange_only number_order coarse ma) in
      let y = first_place b (arrange_only number_order coarse mb) in
      sym x.1 ∙ finer (position (eqb a) coarse) (position (eqb b) coarse) x.0 y.0 e ∙ y.1) in
      let few : length (map fine_of cs) ≤ class_total fine =
      distinct_length (map fine_of cs) (arrange ltb fine) apart
      (λ d m. let x = mem_map fine_of cs m in
      arrange_keeps number_order fine
      (subst (λ (k : ℕ). Memᴰ k fine) (sym x.2)
      (get_d_in fine (position (eqb x.0) coarse) 0 (first_place x.0 (arrange_only number_order coarse x.1)).0))) in
      omega (arith, few, length-map cs fine_of)
