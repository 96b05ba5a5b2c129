-- Laws of the numbers of a part: by their places, where the part is empty, longer or split, and where slices agree on it.
use Rattle.std.specs.Prelude.{◌≡◌, ◌⊎◌, ℕ, ◌+◌, ◌-◌, ◌≤◌, ◌<◌, length, get_or, take, drop}
use Rattle.std.proofs.Common.{sym, ap, ap₂, ◌∙◌, subst, arith, take-add, drop-drop, ltb-true}
use mathlib.Core.List.{List, [], ◌∷◌, ◌++◌, Memᴰ}
use Rattle.list_laws.specs.Tabulate.{tabulate, tabulate_next, tabulate_length}
use Rattle.list_laws.specs.TabulateLaws.{part_tabulate, mem_tabulate, tabulate_mem, ascends_at}
use Rattle.list_laws.specs.Lists.{Ascends, none_left}
use Rattle.list_laws.specs.Frames.{SameOutside, part_same, outside_between}
use Rattle.list_laws.specs.AscendingLaws.{number_order}
use Rattle.number_lists.specs.NumberLists.{numbers_in}

-- the empty part has no number
pub numbers_none : (w : List ℕ) (from : ℕ) → numbers_in w from from ≡ []
unfolding numbers_in
numbers_none w from =
    let e : from - from ≡ 0 = omega arith in
    ap (λ (n : ℕ). take n (drop from w)) e

pub numbers_none_ascend : (w : List ℕ) (from : ℕ) → Ascends number_order.before (numbers_in w from from)
numbers_none_ascend w from = subst (Ascends number_order.before) (sym (numbers_none w from)) none_left

-- a part is two parts, one after the other
pub numbers_split : (w : List ℕ) (from mid end : ℕ) → from ≤ mid → mid ≤ end
    → numbers_in w from end ≡ numbers_in w from mid ++ numbers_in w mid end
unfolding numbers_in
numbers_split w from mid end h k =
    let e : end - from ≡ mid - from + (end - mid) = omega arith in
    let d : from + (mid - from) ≡ mid = omega arith in
    ap (λ (n : ℕ). take n (drop from w)) e
    ∙ take-add (mid - from) (end - mid) (drop from w)
    ∙ ap (λ (l : List ℕ). take (mid - from) (drop from w) ++ take (end - mid) l)
    (drop-drop (mid - from) from w ∙ ap (λ (n : ℕ). drop n w) d)

-- slices of one length that agree on the places of a part have the same numbers there
pub numbers_same : (v w : List ℕ) (from end : ℕ) → length w ≡ length v → ((i : ℕ) → from ≤ i → i < end → get_or w i 0 ≡ get_or v i 0)
    → numbers_in w from end ≡ numbers_in v from end
unfolding numbers_in
numbers_same v w from end l h = part_same v w from end l h

-- and so have slices that differ only inside bounds that the part lies outside of
pub numbers_outside : {a b : ℕ} {v w : List ℕ} (from end : ℕ) → (end ≤ a) ⊎ (b ≤ from) → SameOutside a b v w
    → numbers_in w from end ≡ numbers_in v from end
unfolding numbers_in
numbers_outside from end o s = outside_between from end o s

module _ (w : List ℕ) (from end : ℕ) (h : from ≤ end) (l : end ≤ length w) where
  -- the numbers by their places
  pub numbers_tabulate : numbers_in w from end ≡ tabulate (λ j. get_or w (from + j) 0) (end - from)
  unfolding numbers_in
  numbers_tabulate = part_tabulate w from (end - from) (omega arith)

  pub numbers_length : length (numbers_in w from end) ≡ end - from
  numbers_length = ap length numbers_tabulate ∙ tabulate_length (λ j. get_or w (from + j) 0) (end - from)

  -- what stands at a place of the part is one of its numbers
  pub numbers_at_lem : (i : ℕ) → from ≤ i → i < end → Memᴰ (get_or w i 0) (numbers_in w from end)
  numbers_at_lem i p q =
      let e : from + (i - from) ≡ i = omega arith in
      subst (λ (s : List ℕ). Memᴰ (get_or w i 0) s) (sym numbers_tabulate)
      (subst (λ (k : ℕ). Memᴰ (get_or w k 0) (tabulate (λ j. get_or w (from + j) 0) (end - from))) e
      (mem_tabulate (λ j. get_or w (from + j) 0) (end - from) (i - from) (omega arith)))

  -- and each of its numbers stands at a place of it
  pub numbers_place : {x : ℕ} → Memᴰ x (numbers_in w from end) → (i : ℕ) × (from ≤ i) × (i < end) × (x ≡ get_or w i 0)
  numbers_place {x} m =
      let i = tabulate_mem (λ j. get_or w (from + j) 0) (end - from) (subst (λ (s : List ℕ). Memᴰ x s) numbers_tabulate m) in
      (from + i.0, omega arith, omega (arith, i.1), i.2)

  -- ascending numbers, place by place
  pub numbers_rise : Ascends number_order.before (numbers_in w from end) → (i j : ℕ) → from ≤ i → i < j → j < end → get_or w i 0 < get_or w j 0
  numbers_rise s i j p q r =
      let e : from + (i - from) ≡ i = omega arith in
      let d : from + (j - from) ≡ j = omega arith in
      let t : get_or w (from + (i - from)) 0 < get_or w (from + (j - from)) 0 =
      ltb-true (get_or w (from + (i - from)) 0) (get_or w (from + (j - from)) 0)
      (ascends_at number_order (λ k. get_or w (from + k) 0) (end - from) (subst (Ascends number_order.before) numbers_tabulate s) (i - from) (j - from)
      (omega arith) (omega arith)) in
      rw (e, d) at t

-- one place more
pub numbers_next : (w : List ℕ) (from end : ℕ) → from ≤ end → end < length w
    → numbers_in w from (end + 1) ≡ numbers_in w from end ++ (get_or w end 0 ∷ [])
numbers_next w from end h l =
    let e : end + 1 - from ≡ end - from + 1 = omega arith in
    let d : from + (end - from) ≡ end = omega arith in
    numbers_tabulate w from (end + 1) (omega arith) (omega arith)
    ∙ ap (tabulate (λ j. get_or w (from + j) 0)) e
    ∙ tabulate_next (λ j. get_or w (from + j) 0) (end - from)
    ∙ ap₂ (λ (s : List ℕ) (i : ℕ). s ++ (get_or w i 0 ∷ [])) (sym (numbers_tabulate w from end h (omega arith))) d
