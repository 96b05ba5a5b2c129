-- The present classes of a set's members after round r, in numbers that are kept: they are round r, the next round is read off
-- the lines, the last round is the result's, and the births give the first round that has two members apart.
use Rattle.std.specs.Prelude.{◌≡◌, ◌↔◌, true, ℕ, suc, ◌≤◌, ◌<◌, length, get_or, ltb}
use Rattle.std.proofs.Common.{sym, ◌∙◌, subst, arith, ltb-true, ltb-false, eqb-true, eq-eqb}
use mathlib.Core.List.{List, [], Memᴰ}
use Rattle.work_layout.specs.TestLaws.{true_false, Tested, tested, passes, fails}
use Rattle.comparison_laws.specs.Sheet.{Configuration, Sheet}
use Rattle.comparison_laws.specs.WellFormed.{WellFormed}
use Rattle.comparison_laws.specs.Refinement.{Round}
use Rattle.comparison_laws.specs.Classes.{class_of, share}
use Rattle.comparison_laws.specs.Rounds.{classes, rounds, result_of, apart_in}
use Rattle.comparison_laws.specs.SheetTransitions.{transitions}
use Rattle.comparison_laws.specs.RoundLaws.{ClosedList, Sharing, share_round}
use Rattle.comparison_laws.specs.ResultLaws.{rounds_at, rounds_of, result_is, stable_classes}
use Rattle.comparison_laws.specs.TrailLaws.{apart_le, apart_together, apart_at_lem}
use Rattle.kept_classes.specs.ClassBirths.{apart}
use Rattle.kept_classes.specs.ClassesPresent.{Present, present_now, present_apart, present_apart_le, born_splits}
use Rattle.kept_classes.specs.MemberLines.{lines_of, lines_round}

-- the first number at which S fails is one
first_unique : (x y r : ℕ) (S : ℕ → Type 0) → x ≤ suc r → y ≤ suc r → ((n : ℕ) → n ≤ r → S n ↔ (n < x))
    → ((n : ℕ) → n < y → S n) → (y < suc r → S y → ⊥) → x ≡ y
first_unique x y r S lx ly s b a = go (tested (ltb x y)) (tested (ltb y x))
  where
    go : Tested (ltb x y) → Tested (ltb y x) → x ≡ y
    go (passes h) t = let l : x < y = ltb-true x y h in absurd (omega (arith, (s x (omega arith)).0 (b x l)))
    go (fails h) (passes k) = let l : y < x = ltb-true y x k in absurd (a (omega arith) ((s y (omega arith)).1 l))
    go (fails h) (fails k) = omega (arith, ltb-false x y h, ltb-false y x k)

module _ (sheet : Sheet) (set : List Configuration) where
  -- the classes of the set's members after round r
  abbrev pub PresentIn : (ℕ → ℕ) → (ℕ → ℕ) → ℕ → ℕ → (Configuration → ℕ) → Type 0
  PresentIn = Present (λ (p : Configuration). Memᴰ p set) (Round (transitions sheet))

  module _ (wf : WellFormed sheet) (closed : ClosedList sheet set) (from born : ℕ → ℕ) (count r : ℕ) (class : Configuration → ℕ)
      (P : PresentIn from born count r class) (numbers : List ℕ) (is :
      (p : Configuration) → Memᴰ p set → class_of set numbers p ≡ class p) where
    now : (p q : Configuration) → Memᴰ p set → Memᴰ q set → (class p ≡ class q) ↔ Round (transitions sheet) r p q
    now = present_now (λ (p : Configuration). Memᴰ p set) (Round (transitions sheet)) from born count r class P

    -- they are round r
    pub present_sharing : Sharing sheet wf set closed numbers r
    present_sharing = record {
      to_round = λ p q mp mq h. (now p q mp mq).0
          (sym (is p mp) ∙ eqb-true (class_of set numbers p) (class_of set numbers q) h ∙ is q mq);
      from_round = λ p q mp mq h. eq-eqb (class_of set numbers p) (class_of set numbers q)
          (is p mp ∙ (now p q mp mq).1 h ∙ sym (is q mq));
    }

    -- two members share a class in the next round exactly when they share one now and have equal lines
    pub next_by_lines : ((x : Configuration) → class_of set numbers x < 65536) → (p q : Configuration) → Memᴰ p set → Memᴰ q set
        → ((class p ≡ class q) × (lines_of sheet set numbers p ≡ lines_of sheet set numbers q)) ↔ Round (transitions sheet) (suc r) p q
    next_by_lines few p q mp mq = (
      (λ x. (by (shared x.0)).0 x.1),
      (λ h. let e : class p ≡ class q = (now p q mp mq).1 h.0 in (e, (by (shared e)).1 h)),
    )
      where
        by : share set numbers p q ≡ true
            → (lines_of sheet set numbers p ≡ lines_of sheet set numbers q) ↔ Round (transitions sheet) (suc r) p q
        by s = lines_round sheet set numbers wf closed r present_sharing few p q mp mq s

        shared : class p ≡ class q → share set numbers p q ≡ true
        shared e = eq-eqb (class_of set numbers p) (class_of set numbers q)
            (is p mp ∙ e ∙ sym (is q mq))

    module _ (some : 1 ≤ length set) where
      -- every round up to r had a birth: the result's round is not before r
      pub present_early : ((m : ℕ) → m < r → (c : ℕ) × (c < count) × (born c ≡ suc m)) → result_of (rounds sheet set) < r → ⊥
      present_early births l =
          let b = births (result_of (rounds sheet set)) l in
          let x = born_splits (λ (p : Configuration). Memᴰ p set) (Round (transitions sheet)) from born count r class P
          b.0 (result_of (rounds sheet set)) b.1 b.2 in
          x.5 ((share_round sheet wf set closed (suc (result_of (rounds sheet set))) x.0 x.1 x.2 x.3).0
          (subst (λ (l : List ℕ). share set l x.0 x.1 ≡ true) (sym (result_is sheet set wf closed some).equal)
          ((share_round sheet wf set closed (result_of (rounds sheet set)) x.0 x.1 x.2 x.3).1 x.4)))

      -- and nothing splits any more: r is the result's round
      pub present-result
          : ((p q : Configuration) → Memᴰ p set → Memᴰ q set → Round (transitions sheet) r p q → Round (transitions sheet) (suc r) p q)
          → ((m : ℕ) → m < r → (c : ℕ) × (c < count) × (born c ≡ suc m)) → length (rounds sheet set) ≡ suc r
      present-result stable births = go (tested (ltb (result_of (rounds sheet set)) r)) (tested (ltb r (result_of (rounds sheet set))))
        where
          late : r < (result_of (rounds sheet set)) → ⊥
          late l = (result_is sheet set wf closed some).first r l (stable_classes sheet set wf closed r stable)

          go : Tested (ltb (result_of (rounds sheet set)) r) → Tested (ltb r (result_of (rounds sheet set)))
              → length (rounds sheet set) ≡ suc r
          go (passes y) t = absurd (present_early births (ltb-true (result_of (rounds sheet set)) r y))
          go (fails y) (passes z) = absurd (late (ltb-true r (result_of (rounds sheet set)) z))
          go (fails y) (fails z) =
              omega (
                arith,
                ltb-false (result_of (rounds sheet set)) r y,
                ltb-false r (result_of (rounds sheet set)) z,
                (rounds_of sheet set wf closed some).some,
              )

      -- the births give the first round that has two members apart
      pub present_first : length (rounds sheet set) ≡ suc r → (p q : Configuration) → Memᴰ p set → Memᴰ q set
          → apart from born (suc r) (class p) (class q) ≡ apart_in set (rounds sheet set) p q
      present_first e p q mp mq =
          first_unique (apart from born (suc r) (class p) (class q)) (apart_in set (rounds sheet set) p q) r
          (λ n. share set (get_or (rounds sheet set) n []) p q ≡ true)
          (present_apart_le (λ (p : Configuration). Memᴰ p set) (Round (transitions sheet)) from born count r class P p q mp mq)
          (omega (arith, apart_le set (rounds sheet set) p q))
          shared
          (λ n l. apart_together set (rounds sheet set) p q n l)
          (λ l h. true_false (share set (get_or (rounds sheet set) (apart_in set (rounds sheet set) p q) []) p q) h
          (apart_at_lem set (rounds sheet set) p q (omega arith)))
        where
          shared : (n : ℕ) → n ≤ r → (share set (get_or (rounds sheet set) n []) p q ≡ true) ↔ (n < apart from born (suc r) (class p) (class q))
          shared n l =
              let s = share_round sheet wf set closed n p q mp mq in
              let a = present_apart (λ (p : Configuration). Memᴰ p set) (Round
              (transitions sheet)) from born count r class P p q mp mq n l in
              let i : get_or (rounds sheet set) n [] ≡ classes sheet set n = rounds_at sheet set wf closed some n (omega arith) in (
                (λ h. a.0 (s.0 (subst (λ (c : List ℕ). share set c p q ≡ true) i h))),
                (λ h. subst (λ (c : List ℕ). share set c p q ≡ true) (sym i) (s.1 (a.1 h))),
              )
