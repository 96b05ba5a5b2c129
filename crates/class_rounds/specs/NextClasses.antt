-- All places are done: their classes are those of the next round.
use Rattle.std.specs.Prelude.{◌≡◌, ◌↔◌, ◌⊎◌, List, ℕ, zero, suc, ◌+◌, ◌/◌, ◌%◌, ◌≤◌, ◌<◌, length, ltb}
use Rattle.std.proofs.Common.{sym, ap, ◌∙◌, subst, inl, inr, arith, add-one, ltb-true, ltb-false}
use Rattle.round_lines.specs.TestLaws.{Tested, tested, passes, fails}
use Rattle.dominators.specs.Sheet.{Configuration, Sheet}
use Rattle.dominators.specs.ClassBirths.{Births}
use Rattle.dominators.specs.ClassesPresent.{births_agree, births_more, present_next}
use Rattle.round_steps.specs.ClassedPlaces.{chosen_in}
use Rattle.round_steps.specs.LineTests.{lines_held}
use Rattle.class_rounds.specs.RoundAtHand.{TogetherHeld, PresentHeld, Stage, stage_count, stage_next}
use Rattle.round_steps.specs.SplitRounds.{Splitting}
use Rattle.former_classes.specs.ClassLayout.{class_in, born_in, from_in_lem}

module _ {sheet : Sheet} {set : List Configuration} {v : List ℕ} {n m r old : ℕ} (S : Stage sheet set v n m r old)
    {w : List ℕ} {count : ℕ} (Z : Splitting v n (r + 1) old w count (λ i. i < n)) where
  same_from : (c : ℕ) → c < old → from_in_lem w c ≡ from_in_lem v c
  same_from c l = ap (λ (x : ℕ). x / 65536) (Z.old_births c l)

  same_born : (c : ℕ) → c < old → born_in w c ≡ born_in v c
  same_born c l = ap (λ (x : ℕ). x % 65536) (Z.old_births c l)

  new_born : (c : ℕ) → old ≤ c → c < count → born_in w c ≡ suc r
  new_born c h l = (Z.new_births c h l).0 ∙ add-one r

  -- old classes were born by round r
  old_born : (c : ℕ) → c < old → born_in w c ≤ r
  old_born c l =
      let x = S.present.used c l in
      omega (arith, same_born c l, ap (born_in v) x.2, S.present.by_now x.0 x.1)

  by_now : (c : ℕ) → c < count → Tested (ltb c old) → born_in w c ≤ suc r
  by_now c l (passes y) = omega (arith, old_born c (ltb-true c old y))
  by_now c l (fails y) = omega (arith, new_born c (ltb-false c old y) l)

  births_up_to : (k : ℕ) → old ≤ k → k ≤ count → Births (from_in_lem w) (born_in w) k
  births_up_to zero h l =
      let e : old ≡ 0 = omega arith in
      subst (Births (from_in_lem w) (born_in w)) e
      (births_agree (from_in_lem v) (born_in v) (from_in_lem w) (born_in w) old S.present.births same_from same_born)
  births_up_to (suc k) h l = go (births_up_to k) (tested (ltb k old))
    where
      go : (old ≤ k → k ≤ count → Births (from_in_lem w) (born_in w) k) → Tested (ltb k old) → Births (from_in_lem w) (born_in w) (suc k)
      go ih (passes y) =
          let e : old ≡ suc k = omega (arith, ltb-true k old y) in
          subst (Births (from_in_lem w) (born_in w)) e
          (births_agree (from_in_lem v) (born_in v) (from_in_lem w) (born_in w) old S.present.births same_from same_born)
      go ih (fails y) =
          let b : old ≤ k = ltb-false k old y in
          let f : from_in_lem w k < old = (Z.new_births k b (omega arith)).1 in
          births_more (from_in_lem w) (born_in w) k (suc r) (ih b (omega arith)) (λ c a. by_now c (omega arith) (tested (ltb c old)))
          (new_born k b (omega arith)) (omega arith) (omega (arith, old_born (from_in_lem w k) f))

  size : length set ≡ n
  size = stage_count S

  -- two places that have one class have the class they had and the lines of its chosen member
  had : (i : ℕ) → i < n → Tested (ltb (class_in w i) old)
      → ((class_in w i < old) × (class_in w i ≡ class_in v i)) ⊎ ((old ≤ class_in w i) × (from_in_lem w (class_in w i) ≡ class_in v i))
  had i l (passes y) = let b = ltb-true (class_in w i) old y in inl (b, Z.kept i l b)
  had i l (fails y) = let b = ltb-false (class_in w i) old y in inr (b, Z.came i l b)

  pub next_together : (i j : ℕ) → i < n → j < n → (class_in w i ≡ class_in w j) ↔ TogetherHeld sheet set (suc r) i j
  next_together i j li lj = (to, back)
    where
      to : class_in w i ≡ class_in w j → TogetherHeld sheet set (suc r) i j
      to e =
          (stage_next S i j li lj).0 (
            came (had i li (tested (ltb (class_in w i) old))) (had j lj (tested (ltb (class_in w j) old))),
            Z.alike i li li ∙ ap (λ (c : ℕ). lines_held v (chosen_in w c)) e ∙ sym (Z.alike j lj lj),
          )
        where
          came : ((class_in w i < old) × (class_in w i ≡ class_in v i)) ⊎ ((old ≤ class_in w i) × (from_in_lem w (class_in w i) ≡ class_in v i))
              → ((class_in w j < old) × (class_in w j ≡ class_in v j)) ⊎ ((old ≤ class_in w j) × (from_in_lem w (class_in w j) ≡ class_in v j))
              → class_in v i ≡ class_in v j
          came (inl x) (inl y) = sym x.1 ∙ e ∙ y.1
          came (inl x) (inr y) = absurd (omega (arith, x.0, y.0))
          came (inr x) (inl y) = absurd (omega (arith, x.0, y.0))
          came (inr x) (inr y) = sym x.1 ∙ ap (from_in_lem w) e ∙ y.1

      back : TogetherHeld sheet set (suc r) i j → class_in w i ≡ class_in w j
      back t = go (had i li (tested (ltb (class_in w i) old))) (had j lj (tested (ltb (class_in w j) old)))
        where
          both : (class_in v i ≡ class_in v j) × (lines_held v i ≡ lines_held v j)
          both = (stage_next S i j li lj).1 t

          lines : lines_held v (chosen_in w (class_in w i)) ≡ lines_held v (chosen_in w (class_in w j))
          lines = sym (Z.alike i li li) ∙ both.1 ∙ Z.alike j lj lj

          go : ((class_in w i < old) × (class_in w i ≡ class_in v i)) ⊎ ((old ≤ class_in w i) × (from_in_lem w (class_in w i) ≡ class_in v i))
              → ((class_in w j < old) × (class_in w j ≡ class_in v j)) ⊎ ((old ≤ class_in w j) × (from_in_lem w (class_in w j) ≡ class_in v j))
              → class_in w i ≡ class_in w j
          go (inl x) (inl y) = x.1 ∙ both.0 ∙ sym y.1
          go (inl x) (inr y) =
              absurd (Z.apart_old (class_in w j) y.0 (Z.classed.known j lj)
              (sym lines ∙ ap (λ (c : ℕ). lines_held v (chosen_in w c)) (x.1 ∙ both.0 ∙ sym y.1)))
          go (inr x) (inl y) =
              absurd (Z.apart_old (class_in w i) x.0 (Z.classed.known i li)
              (lines ∙ ap (λ (c : ℕ). lines_held v (chosen_in w c)) (y.1 ∙ sym both.0 ∙ sym x.1)))
          go (inr x) (inr y) =
              Z.apart_new (class_in w i) (class_in w j) x.0 (Z.classed.known i li) y.0 (Z.classed.known j lj)
              (x.1 ∙ both.0 ∙ sym y.1) lines

  pub next_present : PresentHeld sheet set w count (r + 1)
  next_present =
      rw (add-one r) (present_next (λ (i : ℕ). i < length set) (TogetherHeld sheet set) (from_in_lem v) (born_in v) (from_in_lem w) (born_in w) old count r
      (class_in v) (class_in w) S.present Z.more (births_up_to count Z.more (omega arith)) same_from same_born
      (λ i l. Z.classed.known i (omega (arith, size)))
      (λ i l. origin i (omega (arith, size)) (had i (omega (arith, size)) (tested (ltb (class_in w i) old))))
      (λ c l. (chosen_in w c, omega (arith, size, Z.classed.chosen_in_lem c l), Z.classed.chosen_of c l))
      (λ i j l h. next_together i j (omega (arith, size)) (omega (arith, size))))
    where
      origin : (i : ℕ) → i < n
          → ((class_in w i < old) × (class_in w i ≡ class_in v i)) ⊎ ((old ≤ class_in w i) × (from_in_lem w (class_in w i) ≡ class_in v i))
          → (class_in w i ≡ class_in v i) ⊎ ((from_in_lem w (class_in w i) ≡ class_in v i) × (born_in w (class_in w i) ≡ suc r))
      origin i l (inl x) = inl x.1
      origin i l (inr x) = inr (x.1, new_born (class_in w i) x.0 (Z.classed.known i l))
