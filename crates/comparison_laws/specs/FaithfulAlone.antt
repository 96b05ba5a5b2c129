-- The promise fixes the report: of a sheet and two starts, two reports that are faithful are one.
use Rattle.std.specs.Prelude.{◌≡◌, refl, ◌⊎◌, true, ℕ, zero, suc, ◌<◌, length, get_or}
use Rattle.std.proofs.Common.{sym, ap, ap₂, ◌∙◌, subst, inl, inr, arith, ext_get_or}
use mathlib.Core.List.{List, [], Memᴰ}
use Rattle.move_laws.specs.TestLaws.{neither_below}
use Rattle.move_laws.specs.AscendingLaws.{ascends_unique}
use Rattle.move_laws.specs.ListPlaces.{get_d_in}
use Rattle.move_laws.specs.Sheet.{Configuration, Sheet}
use Rattle.move_laws.specs.OrderLaws.{configuration_order}
use Rattle.comparison.specs.Refinement.{Level}
use Rattle.comparison.specs.SheetTransitions.{transitions}
use Rattle.comparison.specs.Classes.{share}
use Rattle.comparison.specs.Trail.{TrailStep}
use Rattle.comparison.specs.Report.{Verdict, SAME, DIFF, Report}
use Rattle.comparison.specs.Promise.{ResultRound, NumberedByFirst, SetListed, Faithful}
use Rattle.comparison_laws.specs.MemberPlaces.{places_apart, share_places}
use Rattle.comparison_laws.specs.TrailAlone.{one_first, trail_alone}
use Rattle.comparison_laws.specs.Theorem.{same_not_diff}

-- ---- numbers by first member
-- two lists of numbers by first member that have the same equal ones are equal
module _ (c d : List ℕ) (by-c : NumberedByFirst c) (by-d : NumberedByFirst d) (long : length c ≡ length d)
    (there : (i j : ℕ) → i < length c → j < length c → get_or c i 0 ≡ get_or c j 0 → get_or d i 0 ≡ get_or d j 0)
    (back : (i j : ℕ) → i < length c → j < length c → get_or d i 0 ≡ get_or d j 0 → get_or c i 0 ≡ get_or c j 0) where
  number_one : (k i : ℕ) → i < k → i < length c → get_or c i 0 ≡ get_or d i 0
  number_one zero i h l = absurd (omega arith)
  number_one (suc k) i h l =
      go (λ j a. number_one k j (omega (arith, a, h)) (omega (arith, a, l))) (by-c.at i l) (by-d.at i (omega (arith, l, long)))
    where
      go : ((j : ℕ) → j < i → get_or c j 0 ≡ get_or d j 0)
          → ((j : ℕ) × (j < i) × (get_or c j 0 ≡ get_or c i 0)) ⊎ (((j : ℕ) → j < i → get_or c j 0 ≡ get_or c i 0 → ⊥)
          × ((x : ℕ) → x < get_or c i 0 → (j : ℕ) × (j < i) × (get_or c j 0 ≡ x)))
          → ((j : ℕ) × (j < i) × (get_or d j 0 ≡ get_or d i 0)) ⊎ (((j : ℕ) → j < i → get_or d j 0 ≡ get_or d i 0 → ⊥)
          × ((x : ℕ) → x < get_or d i 0 → (j : ℕ) × (j < i) × (get_or d j 0 ≡ x)))
          → get_or c i 0 ≡ get_or d i 0
      go ih (inl x) y = sym x.2 ∙ ih x.0 x.1 ∙ there x.0 i (omega (arith, x.1, l)) l x.2
      go ih (inr x) (inl y) = absurd (x.0 y.0 y.1 (back y.0 i (omega (arith, y.1, l)) l y.2))
      go ih (inr x) (inr y) =
          neither_below (get_or c i 0) (get_or d i 0)
          (λ h. let j = y.1 (get_or c i 0) h in x.0 j.0 j.1 (ih j.0 j.1 ∙ j.2))
          (λ h. let j = x.1 (get_or d i 0) h in y.0 j.0 j.1 (sym (ih j.0 j.1) ∙ j.2))

  numbers_one : c ≡ d
  numbers_one = ext_get_or 0 c d long (λ i l. number_one (suc i) i (omega arith) l)

-- ---- a set that is listed twice
module _ {sheet : Sheet} {seeds ms ns : List Configuration} {cs ds : List ℕ} (a : SetListed sheet seeds ms cs) (b : SetListed sheet seeds ns ds) where
  -- the members are one list
  pub members_one : ms ≡ ns
  members_one =
      ascends_unique configuration_order ms ns a.ordered b.ordered (λ x m. (b.whole x).1 ((a.whole x).0 m)) (λ x m. (a.whole x).1 ((b.whole x).0 m))

  -- there are as many class numbers
  pub as_many : length cs ≡ length ds
  as_many = a.classed ∙ ap length members_one ∙ sym b.classed

  -- where members that share a class of the first share one of the second, equal numbers of the first are equal in the second
  pub finer_places : ((x y : Configuration) → Memᴰ x ms → Memᴰ y ms → share ms cs x y ≡ true → share ns ds x y ≡ true)
      → (i j : ℕ) → i < length cs → j < length cs → get_or cs i 0 ≡ get_or cs j 0 → get_or ds i 0 ≡ get_or ds j 0
  finer_places f i j l k e =
      let d : Configuration = record { store = 0; threads = [] } in
      let li : i < length ms = omega (arith, l, a.classed) in
      let lj : j < length ms = omega (arith, k, a.classed) in
      let h = f (get_or ms i d) (get_or ms j d) (get_d_in ms i d li) (get_d_in ms j d lj) ((share_places ms a.ordered cs d i j li lj).1 e) in
      (share_places ns b.ordered ds d i j (omega (arith, li, ap length members_one)) (omega (arith, lj, ap length members_one))).0
      (subst (λ (set : List Configuration). share ns ds (get_or set i d) (get_or set j d) ≡ true) members_one h)

-- the classes are one list where the same members share one
pub classes_one : {sheet : Sheet} {seeds ms ns : List Configuration} {cs ds : List ℕ} → SetListed sheet seeds ms cs → SetListed sheet seeds ns ds
    → ((x y : Configuration) → Memᴰ x ms → Memᴰ y ms → share ms cs x y ≡ true → share ns ds x y ≡ true)
    → ((x y : Configuration) → Memᴰ x ns → Memᴰ y ns → share ns ds x y ≡ true → share ms cs x y ≡ true) → cs ≡ ds
classes_one {cs = cs} {ds} a b there back =
    numbers_one cs ds a.numbering b.numbering (as_many a b) (finer_places a b there)
    (λ i j l k. finer_places b a back i j (omega (arith, l, as_many a b)) (omega (arith, k, as_many a b)))

-- ---- the report
-- the result's round is one
pub one_result : {sheet : Sheet} {seeds : List Configuration} {n m : ℕ} → ResultRound sheet seeds n → ResultRound sheet seeds m → n ≡ m
one_result {n = n} {m} x y = neither_below n m (λ h. y.first n h x.stable) (λ h. x.first m h y.stable)

module _ (sheet : Sheet) (p q : Configuration) where
  module _ (r s : Report) (a : Faithful sheet p q r) (b : Faithful sheet p q s) where
    same_members : r.members ≡ s.members
    same_members = members_one a.listed.set b.listed.set

    verdict_one : r.verdict ≡ s.verdict
    verdict_one = go r.verdict s.verdict refl refl
      where
        go : (v w : Verdict) → r.verdict ≡ v → s.verdict ≡ w → v ≡ w
        go SAME SAME e f = refl
        go SAME DIFF e f = absurd (same_not_diff (sym e ∙ a.diff.1 (b.diff.0 f)))
        go DIFF SAME e f = absurd (same_not_diff (sym f ∙ b.diff.1 (a.diff.0 e)))
        go DIFF DIFF e f = refl

    round_one : r.round ≡ s.round
    round_one = go r.verdict refl
      where
        go : (v : Verdict) → r.verdict ≡ v → r.round ≡ s.round
        go SAME e = one_result (a.same_round e) (b.same_round (sym verdict_one ∙ e))
        go DIFF e = one_first sheet (Level (transitions sheet)) (a.diff_round e) (b.diff_round (sym verdict_one ∙ e))

    steps_one : r.steps ≡ s.steps
    steps_one = go r.verdict refl
      where
        go : (v : Verdict) → r.verdict ≡ v → r.steps ≡ s.steps
        go SAME e = a.trail_none e ∙ sym (b.trail_none (sym verdict_one ∙ e))
        go DIFF e = trail_alone sheet (a.trail_walks e) (b.trail_walks (sym verdict_one ∙ e))

    same_classes : r.classes ≡ s.classes
    same_classes =
        classes_one a.listed.set b.listed.set
        (λ x y mx my h. (b.listed.classes x y (there mx) (there my)).1 ((a.listed.classes x y mx my).0 h))
        (λ x y mx my h. (a.listed.classes x y (back mx) (back my)).1 ((b.listed.classes x y mx my).0 h))
      where
        there : {x : Configuration} → Memᴰ x r.members → Memᴰ x s.members
        there {x} m = (b.listed.set.whole x).1 ((a.listed.set.whole x).0 m)

        back : {x : Configuration} → Memᴰ x s.members → Memᴰ x r.members
        back {x} m = (a.listed.set.whole x).1 ((b.listed.set.whole x).0 m)

    -- a start stands at one place
    place_one : (x : Configuration) (i j : ℕ) → i < length r.members → get_or r.members i x ≡ x → j < length s.members → get_or s.members j x ≡ x → i ≡ j
    place_one x i j l e k f =
        let here : get_or r.members j x ≡ x = ap (λ (m : List Configuration). get_or m j x) same_members ∙ f in
        neither_below i j
        (λ h. places_apart r.members a.listed.set.ordered x i j h (omega (arith, k, ap length same_members)) (e ∙ sym here))
        (λ h. places_apart r.members a.listed.set.ordered x j i h l (here ∙ sym e))

    left_one : r.left_place ≡ s.left_place
    left_one = place_one p r.left_place s.left_place a.left_place_lem.0 a.left_place_lem.1 b.left_place_lem.0 b.left_place_lem.1

    right_one : r.right_place ≡ s.right_place
    right_one = place_one q r.right_place s.right_place a.right_place_lem.0 a.right_place_lem.1 b.right_place_lem.0 b.right_place_lem.1

-- One report is faithful to a sheet and two starts: nothing that is returned or written is left free by the promise.
pub faithful_alone : (sheet : Sheet) (p q : Configuration) (r s : Report) → Faithful sheet p q r → Faithful sheet p q s → r ≡ s
faithful_alone sheet p q r s a b =
    ap₂ (λ (v : Verdict) (n : ℕ). built v n r.left_place r.right_place r.members r.classes r.steps)
    (verdict_one sheet p q r s a b) (round_one sheet p q r s a b)
    ∙ ap₂ (λ (i j : ℕ). built s.verdict s.round i j r.members r.classes r.steps) (left_one sheet p q r s a b) (right_one sheet p q r s a b)
    ∙ ap₂ (λ (m : List Configuration) (c : List ℕ). built s.verdict s.round s.left_place s.right_place m c r.steps)
    (same_members sheet p q r s a b) (same_classes sheet p q r s a b)
    ∙ ap (λ (t : List TrailStep). built s.verdict s.round s.left_place s.right_place s.members s.classes t) (steps_one sheet p q r s a b)
  where
    built : Verdict → ℕ → ℕ → ℕ → List Configuration → List ℕ → List TrailStep → Report
    built v n i j m c t = record { verdict = v; round = n; left_place = i; right_place = j; members = m; classes = c; steps = t }
