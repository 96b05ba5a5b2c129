-- Classes of places, each with a chosen member: how many there are, and what may change beside them.
use Rattle.std.specs.Prelude.{◌≡◌, Bool, true, false, ℕ, suc, ◌+◌, ◌≤◌, ◌<◌, length, get_or, set, eqb}
use Rattle.std.proofs.Common.{sym, ap, ◌∙◌, subst, ⊎_elim, arith, get_or-set_same, get_or-set_other, eqb-true}
use mathlib.Core.List.Memᴰ
use mathlib.Core.List.{List, ◌∷◌, Memᴰ}
use Rattle.std.proofs.lemmas.Bool.{eqb-false}
use Rattle.work_layout.specs.TestLaws.{Tested, tested, passes, fails}
use Rattle.work_layout.specs.Tabulate.{tabulate, tabulate_length}
use Rattle.work_layout.specs.TabulateLaws.{mem_tabulate, tabulate_mem, distinct_tabulate}
use Rattle.round_lines.specs.Lists.{Distinct, one_more}
use Rattle.round_lines.specs.Counting.{distinct_length}
use Rattle.work_layout.specs.WorkLayout.{work_end, classes_at, chosen_at, lines_at, member_room}
use Rattle.work_layout.specs.ClassLayout.{class_in}

-- what a test tells
pub record Tells (r : Bool) (P : Type 0) : Type 0 where
  pub holds : r ≡ true → P
  pub not_so : r ≡ false → P → ⊥

-- the chosen member of class c
abbrev pub chosen_in : List ℕ → ℕ → ℕ
chosen_in w c = get_or w (chosen_at + c) 0

-- The first n places have classes below `count`, and for each class one of the places that have it is kept.
pub record Classed (w : List ℕ) (n count : ℕ) : Type 0 where
  pub known : (i : ℕ) → i < n → class_in w i < count
  pub chosen_in_lem : (c : ℕ) → c < count → chosen_in w c < n
  pub chosen_of : (c : ℕ) → c < count → class_in w (chosen_in w c) ≡ c

module _ {w : List ℕ} {n count : ℕ} (C : Classed w n count) where
  abbrev firsts : List ℕ
  firsts = tabulate (chosen_in w) count

  firsts_apart : Distinct firsts
  firsts_apart =
      distinct_tabulate (chosen_in w) count (λ a b la lb e. sym (C.chosen_of a la) ∙ ap (class_in w) e ∙ C.chosen_of b lb)

  firsts_below : (a : ℕ) → Memᴰ a firsts → Memᴰ a (tabulate (λ i. i) n)
  firsts_below a m =
      let x = tabulate_mem (chosen_in w) count m in
      subst (λ (z : ℕ). Memᴰ z (tabulate (λ i. i) n)) (sym x.2)
      (mem_tabulate (λ i. i) n (chosen_in w x.0) (C.chosen_in_lem x.0 x.1))

  -- no more classes than places, as each has a chosen member of its own
  pub classed_count : count ≤ n
  classed_count =
      omega (
        arith,
        distinct_length firsts (tabulate (λ i. i) n) firsts_apart firsts_below,
        tabulate_length (chosen_in w) count,
        tabulate_length {A = ℕ} (λ i. i) n,
      )

  -- and fewer where a place is no chosen member
  pub classed_spare : (i : ℕ) → i < n → (chosen_in w (class_in w i) ≡ i → ⊥) → count < n
  classed_spare i l d =
      omega (
        arith,
        distinct_length (i ∷ firsts) (tabulate (λ i. i) n) (one_more apart firsts_apart) below,
        tabulate_length (chosen_in w) count,
        tabulate_length {A = ℕ} (λ i. i) n,
      )
    where
      apart : Memᴰ i firsts → ⊥
      apart m =
          let x = tabulate_mem (chosen_in w) count m in
          d (ap (λ (z : ℕ). chosen_in w (class_in w z)) x.2 ∙ ap (chosen_in w) (C.chosen_of x.0 x.1) ∙ sym x.2)

      below : (a : ℕ) → Memᴰ a (i ∷ firsts) → Memᴰ a (tabulate (λ i. i) n)
      below a m =
          ⊎_elim (λ (e : a ≡ i). subst (λ (z : ℕ). Memᴰ z (tabulate (λ i. i) n)) (sym e) (mem_tabulate (λ i. i) n i l))
          (λ (k : Memᴰ a firsts). firsts_below a k) (Memᴰ.cases_cons m)

-- only the numbers at the places of classes and chosen members matter
pub classed_same : {v w : List ℕ} {n count : ℕ} → n ≤ member_room → Classed v n count
    → ((k : ℕ) → classes_at ≤ k → k < lines_at → get_or w k 0 ≡ get_or v k 0) → Classed w n count
classed_same {v} {w} {n} {count} few C h = record {
  known = λ i l. omega (arith, class i l, C.known i l);
  chosen_in_lem = λ c l. omega (arith, first c l, C.chosen_in_lem c l);
  chosen_of = λ c l. ap (class_in w) (first c l) ∙ class (chosen_in v c) (C.chosen_in_lem c l) ∙ C.chosen_of c l;
}
  where
    class : (i : ℕ) → i < n → class_in w i ≡ class_in v i
    class i l = h (classes_at + i) (omega arith) (omega arith)

    first : (c : ℕ) → c < count → chosen_in w c ≡ chosen_in v c
    first c l = h (chosen_at + c) (omega arith) (omega (arith, classed_count C))

module _ {w : List ℕ} {n count : ℕ} (C : Classed w n count) (few : n ≤ member_room) (long : work_end ≤ length w) (i : ℕ) (l : i < n)
    (d : chosen_in w (class_in w i) ≡ i → ⊥) where
  -- a chosen member is another place
  not_first : (c : ℕ) → c < count → chosen_in w c ≡ i → ⊥
  not_first c h e = d (ap (λ (z : ℕ). chosen_in w (class_in w z)) (sym e) ∙ ap (chosen_in w) (C.chosen_of c h) ∙ e)

  -- a place that is no chosen member joins another class
  pub classed_join : (k : ℕ) → k < count → Classed (set w (classes_at + i) k) n count
  classed_join k h = record {
    known = λ j m. known j m (tested (eqb j i));
    chosen_in_lem = λ c m. omega (arith, first c m, C.chosen_in_lem c m);
    chosen_of = λ c m.
        ap (class_in u) (first c m) ∙ other (chosen_in w c) (λ e. not_first c m e) ∙ C.chosen_of c m;
  }
    where
      u : List ℕ
      u = set w (classes_at + i) k

      first : (c : ℕ) → c < count → chosen_in u c ≡ chosen_in w c
      first c m = get_or-set_other w (classes_at + i) (chosen_at + c) k 0 (λ e. omega arith)

      other : (j : ℕ) → (j ≡ i → ⊥) → class_in u j ≡ class_in w j
      other j e = get_or-set_other w (classes_at + i) (classes_at + j) k 0 (λ z. e (omega arith))

      mine : class_in u i ≡ k
      mine = get_or-set_same w (classes_at + i) k 0 (omega arith)

      known : (j : ℕ) → j < n → Tested (eqb j i) → class_in u j < count
      known j m (passes e) = omega (arith, ap (class_in u) (eqb-true j i e), mine)
      known j m (fails e) = omega (arith, other j (eqb-false j i e), C.known j m)

-- Place i becomes the chosen member of a new class; the places after it may be left out.
module _ {w : List ℕ} {n count : ℕ} (C : Classed w n count) (i N : ℕ) (l : i < N) (few : N ≤ member_room) (room : count < member_room)
    (long : work_end ≤ length w)
    (d : (c : ℕ) → c < count → chosen_in w c ≡ i → ⊥) (whole : (j : ℕ) → j < N → (j ≡ i → ⊥) → j < n) (le : n ≤ N)
    (u : List ℕ) (own : class_in u i ≡ count) (first : chosen_in u count ≡ i)
    (classes : (j : ℕ) → j < member_room → (j ≡ i → ⊥) → class_in u j ≡ class_in w j)
    (firsts_same : (c : ℕ) → c < count → chosen_in u c ≡ chosen_in w c) where
  pub classed_new : Classed u N (suc count)
  classed_new = record {
    known = λ j m. known j m (tested (eqb j i));
    chosen_in_lem = λ c m. inside c m (tested (eqb c count));
    chosen_of = λ c m. of c m (tested (eqb c count));
  }
    where
      known : (j : ℕ) → j < N → Tested (eqb j i) → class_in u j < suc count
      known j m (passes e) = omega (arith, ap (class_in u) (eqb-true j i e), own)
      known j m (fails e) =
          let f : j ≡ i → ⊥ = eqb-false j i e in
          omega (arith, classes j (omega arith) f, C.known j (whole j m f))

      inside : (c : ℕ) → c < suc count → Tested (eqb c count) → chosen_in u c < N
      inside c m (passes e) = omega (arith, ap (chosen_in u) (eqb-true c count e), first)
      inside c m (fails e) =
          let b : c < count = omega (arith, eqb-false c count e) in
          omega (arith, firsts_same c b, C.chosen_in_lem c b)

      of : (c : ℕ) → c < suc count → Tested (eqb c count) → class_in u (chosen_in u c) ≡ c
      of c m (passes e) =
          let x : c ≡ count = eqb-true c count e in
          ap (λ (z : ℕ). class_in u (chosen_in u z)) x ∙ ap (class_in u) first ∙ own ∙ sym x
      of c m (fails e) =
          let b : c < count = omega (arith, eqb-false c count e) in
          ap (class_in u) (firsts_same c b) ∙ classes (chosen_in w c) (omega (arith, C.chosen_in_lem c b)) (d c b) ∙ C.chosen_of c b

-- the next place has a class that is there already
pub classed_append : {w : List ℕ} {n count : ℕ} (C : Classed w n count) (k : ℕ) → k < count → (u : List ℕ) → class_in u n ≡ k
    → ((j : ℕ) → j < n → class_in u j ≡ class_in w j) → ((c : ℕ) → c < count → chosen_in u c ≡ chosen_in w c) → Classed u (n + 1) count
classed_append {w} {n} {count} C k h u own classes first = record {
  known = λ j m. known j m (tested (eqb j n));
  chosen_in_lem = λ c m. omega (arith, first c m, C.chosen_in_lem c m);
  chosen_of = λ c m. ap (class_in u) (first c m) ∙ classes (chosen_in w c) (C.chosen_in_lem c m) ∙ C.chosen_of c m;
}
  where
    below : (j : ℕ) → j < n + 1 → eqb j n ≡ false → j < n
    below j m e = omega (arith, eqb-false j n e)

    known : (j : ℕ) → j < n + 1 → Tested (eqb j n) → class_in u j < count
    known j m (passes e) = omega (arith, ap (class_in u) (eqb-true j n e), own)
    known j m (fails e) = omega (arith, classes j (below j m e), C.known j (below j m e))
