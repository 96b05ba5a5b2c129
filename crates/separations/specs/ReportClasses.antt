-- Numbers by first member are the classes of the report: they tell the same members apart, and go up by first member.
use Rattle.std.specs.Prelude.{◌≡◌, ◌↔◌, ◌⊎◌, ℕ, zero, suc, ◌+◌, ◌≤◌, ◌<◌, length, get_or, eqb, ltb}
use Rattle.std.proofs.Common.{sym, ap, ap₂, ◌∙◌, subst, inl, inr, arith, ext_get_or, eqb-true, eq-eqb, ltb-true, ltb-false}
use mathlib.Core.List.{List, [], Memᴰ}
use Rattle.work_layout.specs.TestLaws.{Tested, tested, passes, fails, neither_below}
use Rattle.work_layout.specs.Frames.{SameOutside, outside_then}
use Rattle.work_layout.specs.Tabulate.{tabulate_length, tabulate_at}
use Rattle.work_layout.specs.TabulateLaws.{mem_tabulate, tabulate_mem}
use Rattle.work_layout.specs.Sheet.{Configuration, Sheet}
use Rattle.work_layout.specs.SetLayout.{member_at, SetHeld}
use Rattle.work_layout.specs.Classes.{share, class_total}
use Rattle.work_layout.specs.Rounds.{classes, rounds, result_of}
use Rattle.class_rounds.specs.RoundLaws.{share_round}
use Rattle.class_rounds.specs.ResultLaws.{classes_by_first, classes_length, rounds_at}
use Rattle.class_rounds.specs.ClassTotals.{total_is, total_finer}
use Rattle.class_rounds.specs.ClassPlaces.{places_sharing}
use Rattle.class_rounds.specs.RoundLayout.{same_set_high, held_same, held_in, held_count_lem, held_place, share_held}
use Rattle.class_rounds.specs.ClassedPlaces.{chosen_in, Classed}
use Rattle.class_rounds.specs.RoundAtHand.{nobody}
use Rattle.class_rounds.specs.RoundsDone.{RoundsHeld, rounds_held_same}
use Rattle.separations.specs.NumberedPlaces.{Numbering}
use Rattle.separations.specs.FirstMembers.{FirstsFound, firsts_classed}
use Rattle.work_layout.specs.WorkLayout.{work_end, line_totals_at, lines_at, member_room}
use Rattle.work_layout.specs.ClassLayout.{class_in, classes_in, born_in, from_in_lem}

-- what numbering classes needs
pub record NumberReady (w : List ℕ) (n : ℕ) : Type 0 where
  pub count : ℕ
  pub classed : Classed w n count
  pub few : n ≤ member_room
  pub long : work_end ≤ length w

-- w is v with classes numbered by first member; only the kept numbers, the classes and the chosen members are changed
pub record Renumbered (v : List ℕ) (n : ℕ) (w : List ℕ) : Type 0 where
  pub only : SameOutside line_totals_at lines_at v w
  pub numbers : (sheet : Sheet) (set : List Configuration) (m r count : ℕ) → RoundsHeld sheet set v n m r count
      → SetHeld sheet set w n m × (classes_in w n ≡ classes sheet set r)

-- after the rounds it can be done
pub rounds_number_ready : {sheet : Sheet} {set : List Configuration} {w : List ℕ} {n m r count : ℕ} → RoundsHeld sheet set w n m r count
    → NumberReady w n
rounds_number_ready {count = count} H =
    record { count = count; classed = H.classed; few = H.ready.held.few.0; long = H.ready.held.long }

-- where r is the result's round, the classes that stand there then are those of the report
pub result_numbers : {sheet : Sheet} {set : List Configuration} {v : List ℕ} {n m r count : ℕ} {w : List ℕ} → Renumbered v n w
    → RoundsHeld sheet set v n m r count → length (rounds sheet set) ≡ suc r
    → classes_in w n ≡ get_or (rounds sheet set) (result_of (rounds sheet set)) []
result_numbers {sheet} {set} {v} {n} {m} {r} {count} N H last =
    let e : result_of (rounds sheet set) ≡ r = omega (arith, last) in
    (N.numbers sheet set m r count H).1
    ∙ sym (rounds_at sheet set H.ready.wf H.ready.closed (omega (arith, held_count_lem sheet set v n m H.ready.held, H.ready.some)) r
    (omega (arith, last)))
    ∙ ap (λ (a : ℕ). get_or (rounds sheet set) a []) (sym e)

-- the number at place i is one of an earlier place, or the least that no earlier place has
abbrev At : (ℕ → ℕ) → ℕ → Type 0
At f i =
    ((j : ℕ) × (j < i) × (f j ≡ f i)) ⊎ (((j : ℕ) → j < i → f j ≡ f i → ⊥) × ((c : ℕ) → c < f i → (j : ℕ) × (j < i) × (f j ≡ c)))

-- numbers by first member are settled by which places share one
module _ (f g : ℕ → ℕ) (n : ℕ) (af : (i : ℕ) → i < n → At f i) (ag : (i : ℕ) → i < n → At g i)
    (same : (i j : ℕ) → i < n → j < n → (f i ≡ f j) ↔ (g i ≡ g j)) where
  settled : (i : ℕ) → i < n → ((j : ℕ) → j < i → f j ≡ g j) → At f i → At g i → f i ≡ g i
  settled i l ih (inl x) b =
      sym x.2 ∙ ih x.0 x.1 ∙ (same x.0 i (omega (arith, x.1)) l).0 x.2
  settled i l ih (inr a) (inl y) = absurd (a.0 y.0 y.1 ((same y.0 i (omega (arith, y.1)) l).1 y.2))
  settled i l ih (inr a) (inr b) = go (tested (ltb (f i) (g i))) (tested (ltb (g i) (f i)))
    where
      go : Tested (ltb (f i) (g i)) → Tested (ltb (g i) (f i)) → f i ≡ g i
      go (passes h) t =
          let y = b.1 (f i) (ltb-true (f i) (g i) h) in
          absurd (a.0 y.0 y.1 (ih y.0 y.1 ∙ y.2))
      go (fails h) (passes k) =
          let y = a.1 (g i) (ltb-true (g i) (f i) k) in
          absurd (b.0 y.0 y.1 (sym (ih y.0 y.1) ∙ y.2))
      go (fails h) (fails k) = omega (arith, ltb-false (f i) (g i) h, ltb-false (g i) (f i) k)

  below : (k i : ℕ) → i < k → i < n → f i ≡ g i
  below zero i h l = absurd (omega arith)
  below (suc k) i h l = settled i l (λ j m. below k j (omega arith) (omega arith)) (af i l) (ag i l)

  by_first_one : (i : ℕ) → i < n → f i ≡ g i
  by_first_one i l = below (suc i) i (omega arith) l

-- ---- kept numbers of round r, and the classes of round r
module _ {sheet : Sheet} {set : List Configuration} {v : List ℕ} {n m r count : ℕ} (H : RoundsHeld sheet set v n m r count) where
  s : SetHeld sheet set v n m
  s = H.ready.held

  size : length set ≡ n
  size = held_count_lem sheet set v n m s

  report_count : length (classes sheet set r) ≡ n
  report_count = classes_length sheet set r ∙ size

  -- two places have one class in the report where they have one in v
  report_same : (i j : ℕ) → i < n → j < n → (class_in v i ≡ class_in v j) ↔ (get_or (classes sheet set r) i 0 ≡ get_or (classes sheet set r) j 0)
  report_same i j li lj =
      let p : Configuration = member_at v i in
      let q : Configuration = member_at v j in
      let mp = held_in sheet set v n m s i li in
      let mq = held_in sheet set v n m s j lj in
      let a = places_sharing sheet set nobody H.ready.wf (from_in_lem v) (born_in v) count r (classes_in v n) H.present
      H.ready.closed in
      let b = share_round sheet H.ready.wf set H.ready.closed r p q mp mq in
      let e = share_held sheet set v n m s H.ready.ascends i j li lj in
      let pi = held_place sheet set v n m s H.ready.ascends i li in
      let pj = held_place sheet set v n m s H.ready.ascends j lj in
      let t : share set (classes sheet set r) p q ≡ eqb (get_or (classes sheet set r) i 0) (get_or (classes sheet set r) j 0) =
      ap₂ (λ (x y : ℕ). eqb (get_or (classes sheet set r) x 0) (get_or (classes sheet set r) y 0)) pi pj in (
        (λ x. eqb-true _ _ (sym t ∙ b.1 (a.to_round p q mp mq (e ∙ eq-eqb _ _ x)))),
        (λ x. eqb-true _ _ (sym e ∙ a.from_round p q mp mq (b.0 (t ∙ eq-eqb _ _ x)))),
      )

  -- there are as many as are kept
  pub rounds_total : class_total (classes sheet set r) ≡ count
  rounds_total =
      neither_below (class_total (classes sheet set r)) count
      (λ l. omega (arith, total_finer (classes sheet set r) (classes_in v n) same_length (λ i j li lj e. kept i j (inside li) (inside lj) e), total_kept))
      (λ l. omega (arith, total_finer (classes_in v n) (classes sheet set r) (sym same_length) (λ i j li lj e. listed i j (kept_in li) (kept_in lj) e), total_kept))
    where
      same_length : length (classes sheet set r) ≡ length (classes_in v n)
      same_length = report_count ∙ sym (tabulate_length (class_in v) n)

      inside : {i : ℕ} → i < length (classes sheet set r) → i < n
      inside l = omega (arith, report_count)

      kept_in : {i : ℕ} → i < length (classes_in v n) → i < n
      kept_in l = omega (arith, tabulate_length (class_in v) n)

      at : (i : ℕ) → i < n → get_or (classes_in v n) i 0 ≡ class_in v i
      at i l = tabulate_at (class_in v) n i 0 l

      kept : (i j : ℕ) → i < n → j < n → get_or (classes sheet set r) i 0 ≡ get_or (classes sheet set r) j 0
          → get_or (classes_in v n) i 0 ≡ get_or (classes_in v n) j 0
      kept i j li lj e = at i li ∙ (report_same i j li lj).1 e ∙ sym (at j lj)

      listed : (i j : ℕ) → i < n → j < n → get_or (classes_in v n) i 0 ≡ get_or (classes_in v n) j 0
          → get_or (classes sheet set r) i 0 ≡ get_or (classes sheet set r) j 0
      listed i j li lj e = (report_same i j li lj).0 (sym (at i li) ∙ e ∙ at j lj)

      total_kept : class_total (classes_in v n) ≡ count
      total_kept =
          total_is (classes_in v n) count
          (λ c i. let x = tabulate_mem (class_in v) n i in omega (arith, x.2, H.classed.known x.0 x.1))
          (λ c l. subst (λ (k : ℕ). Memᴰ k (classes_in v n)) (H.classed.chosen_of c l)
          (mem_tabulate (class_in v) n (chosen_in v c) (H.classed.chosen_in_lem c l)))

module _ (v : List ℕ) (n : ℕ) (w : List ℕ) (total : ℕ) (N : Numbering v n n w total) where
  -- places share a number where they shared a class
  same_classes : (i j : ℕ) → i < n → j < n → (class_in w i ≡ class_in w j) ↔ (class_in v i ≡ class_in v j)
  same_classes i j li lj = (
    (λ e. N.apart i j li lj e),
    (λ e. sym (N.listed i li) ∙ ap (λ (c : ℕ). get_or w (line_totals_at + c) 0) e ∙ N.listed j lj),
  )

  module _ (sheet : Sheet) (set : List Configuration) (m r count : ℕ) (H : RoundsHeld sheet set v n m r count) where
    numbers_are : (i : ℕ) → i < n → class_in w i ≡ get_or (classes sheet set r) i 0
    numbers_are =
        by_first_one (class_in w) (λ i. get_or (classes sheet set r) i 0) n N.by_first
        (λ i l. (classes_by_first sheet set r).at i (omega (arith, report_count H)))
        (λ i j li lj.
        let a = same_classes i j li lj in
        let b = report_same H i j li lj in
        ((λ x. b.0 (a.0 x)), (λ x. a.1 (b.1 x))))

    classes_are : classes_in w n ≡ classes sheet set r
    classes_are =
        ext_get_or 0 (classes_in w n) (classes sheet set r) (tabulate_length (class_in w) n ∙ sym (report_count H))
        (λ i h.
        let l : i < n = omega (arith, tabulate_length (class_in w) n) in
        tabulate_at (class_in w) n i 0 l ∙ numbers_are i l)

  numbers_now : (sheet : Sheet) (set : List Configuration) (m r count : ℕ) → RoundsHeld sheet set v n m r count
      → SetHeld sheet set w n m × (classes_in w n ≡ classes sheet set r)
  numbers_now sheet set m r count H =
      (held_same sheet set v w n m H.ready.held (same_set_high (omega arith) N.only), classes_are sheet set m r count H)

  -- v came from u by choosing first members
  pub renumbered : (u : List ℕ) → FirstsFound u n 0 v → Renumbered u n w
  renumbered u F = record {
    only = outside_then F.only N.only line_totals_at lines_at (omega arith) (omega arith) (omega arith) (omega arith);
    numbers = λ sheet set m r count H.
        numbers_now sheet set m r count
        (rounds_held_same H (same_set_high (omega arith) F.only) (λ k h l. F.only.at k (inl (omega arith)))
        (firsts_classed F H.ready.held.few.0 H.classed));
  }
