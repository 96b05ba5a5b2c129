-- Births come one after the other: what a new class leaves as it was, and the classes of members from round to round.
use Rattle.std.specs.Prelude.{◌≡◌, ◌↔◌, ◌⊎◌, eqb, ltb}
use Rattle.std.proofs.Math.Path.{refl, sym, ap}
use Rattle.std.proofs.Common.{◌∙◌, subst, inl, inr, arith}
use Prim.Native.Nat.{ℕ, zero, suc, ◌+◌, ◌≤◌, ◌<◌}
use borrow.Author.Tests.{ltb-true, ltb-false, eqb-true, eqb-false}
use Rattle.work_layout.specs.TestLaws.{Tested, tested, passes, fails}
use Rattle.kept_classes.specs.ClassBirths.{climb, in_round, apart, Births, climb_up, climb_stay, in_round_before, in_round_after, apart_from, apart_law}

-- ---- other births that are the same below `count`
module _ (from born from2 born2 : ℕ → ℕ) (count : ℕ) (B : Births from born count)
    (same_from : (c : ℕ) → c < count → from2 c ≡ from c) (same_born : (c : ℕ) → c < count → born2 c ≡ born c) where
  pub births_agree : Births from2 born2 count
  births_agree = record {
    in_order = λ a b l c. omega (arith, B.in_order a b l c, same_born a (omega arith), same_born b c);
    from_lower = λ c l z. omega (arith, B.from_lower c l (omega (arith, same_born c l)), same_from c l);
    from_earlier = λ c l z. earlier c l (omega (arith, same_born c l));
  }
    where
      earlier : (c : ℕ) → c < count → 0 < born c → born2 (from2 c) < born2 c
      earlier c l z =
          let f : from c < c = B.from_lower c l z in
          let e : born2 (from2 c) ≡ born (from c) = ap born2 (same_from c l) ∙ same_born (from c) (omega arith) in
          omega (arith, e, B.from_earlier c l z, same_born c l)

  pub climb_agree : (k n c : ℕ) → c < count → climb from2 born2 k n c ≡ climb from born k n c
  unfolding climb
  climb_agree zero n c l = refl
  climb_agree (suc k) n c l = go (climb_agree k n) (tested (ltb n (born c)))
    where
      go : ((c : ℕ) → c < count → climb from2 born2 k n c ≡ climb from born k n c) → Tested (ltb n (born c))
          → climb from2 born2 (suc k) n c ≡ climb from born (suc k) n c
      go ih (passes y) =
          let b : n < born c = ltb-true n (born c) y in
          let f : from c < c = B.from_lower c l (omega arith) in
          climb_up from2 born2 k n c (omega (arith, same_born c l))
          ∙ ap (climb from2 born2 k n) (same_from c l) ∙ ih (from c) (omega arith) ∙ sym (climb_up from born k n c b)
      go ih (fails y) =
          let b : born c ≤ n = ltb-false n (born c) y in
          climb_stay from2 born2 (suc k) n c (omega (arith, same_born c l)) ∙ sym (climb_stay from born (suc k) n c b)

module _ (from born : ℕ → ℕ) where
  -- founders alone
  pub births_founders : (count : ℕ) → ((c : ℕ) → c < count → born c ≡ 0) → Births from born count
  births_founders count f = record {
    in_order = λ a b l c. omega (arith, f a (omega arith), f b c);
    from_lower = λ c l z. absurd (omega (arith, f c l));
    from_earlier = λ c l z. absurd (omega (arith, f c l));
  }

  -- one class more, born in round r from one that the round before had
  pub births_more : (count r : ℕ) → Births from born count → ((c : ℕ) → c < count → born c ≤ r)
      → born count ≡ r → from count < count → born (from count) < r → Births from born (suc count)
  births_more count r B by e f g = record {
    in_order = λ a b l c. order a b l c (tested (eqb b count)) (tested (eqb a count));
    from_lower = λ c l z. lower c l z (tested (eqb c count));
    from_earlier = λ c l z. earlier c l z (tested (eqb c count));
  }
    where
      order : (a b : ℕ) → a ≤ b → b < suc count → Tested (eqb b count) → Tested (eqb a count) → born a ≤ born b
      order a b l c (passes y) (passes z) =
          let x : a ≡ b = eqb-true a count z ∙ sym (eqb-true b count y) in subst (λ (v : ℕ). born a ≤ born v) x (omega arith)
      order a b l c (passes y) (fails z) =
          let x : b ≡ count = eqb-true b count y in
          omega (arith, ap born x, by a (omega (arith, eqb-false a count z)))
      order a b l c (fails y) t = B.in_order a b l (omega (arith, eqb-false b count y))

      lower : (c : ℕ) → c < suc count → 0 < born c → Tested (eqb c count) → from c < c
      lower c l z (passes y) = subst (λ (v : ℕ). from v < v) (sym (eqb-true c count y)) f
      lower c l z (fails y) = B.from_lower c (omega (arith, eqb-false c count y)) z

      earlier : (c : ℕ) → c < suc count → 0 < born c → Tested (eqb c count) → born (from c) < born c
      earlier c l z (passes y) = subst (λ (v : ℕ). born (from v) < born v) (sym (eqb-true c count y)) (omega (arith, g, e))
      earlier c l z (fails y) = B.from_earlier c (omega (arith, eqb-false c count y)) z

-- ---- the classes of members, where Together n is the partition of round n
module _ {M : Type 0} (In : M → Type 0) (Together : ℕ → M → M → Type 0) where
  -- after round r: the present class of a member, and by climbing those of all rounds up to r
  pub record Present (from born : ℕ → ℕ) (count r : ℕ) (class : M → ℕ) : Type 0 where
    pub births : Births from born count
    pub known : (p : M) → In p → class p < count
    pub by_now : (p : M) → In p → born (class p) ≤ r
    pub used : (c : ℕ) → c < count → (p : M) × In p × (class p ≡ c)
    pub rounds : (n : ℕ) (p q : M) → n ≤ r → In p → In q → (in_round from born n (class p) ≡ in_round from born n (class q)) ↔ Together n p q

  -- round 0
  pub present_founders : (from born : ℕ → ℕ) (count : ℕ) (class : M → ℕ) → ((c : ℕ) → c < count → born c ≡ 0)
      → ((p : M) → In p → class p < count) → ((c : ℕ) → c < count → (p : M) × In p × (class p ≡ c))
      → ((p q : M) → In p → In q → (class p ≡ class q) ↔ Together 0 p q)
      → Present from born count 0 class
  present_founders from born count class f k u t = record {
    births = births_founders from born count f;
    known = k;
    by_now = λ p i. omega (arith, f (class p) (k p i));
    used = u;
    rounds = λ n p q l ip iq.
        let e : 0 ≡ n = omega arith in
        let a : in_round from born n (class p) ≡ class p = in_round_after from born count (births_founders from born count f) n
        (class p) (omega (arith, f (class p) (k p ip))) in
        let b : in_round from born n (class q) ≡ class q = in_round_after from born count (births_founders from born count f) n
        (class q) (omega (arith, f (class q) (k q iq))) in
        let h = t p q ip iq in (
          (λ x. subst (λ (v : ℕ). Together v p q) e (h.0 (sym a ∙ x ∙ b))),
          (λ x. a ∙ h.1 (subst (λ (v : ℕ). Together v p q) (sym e) x) ∙ sym b),
        );
  }

  -- only the births below `count` and the classes of members matter
  pub present_alike : (from born from2 born2 : ℕ → ℕ) (count r : ℕ) (class class2 : M → ℕ) → Present from born count r class
      → ((c : ℕ) → c < count → from2 c ≡ from c) → ((c : ℕ) → c < count → born2 c ≡ born c) → ((p : M) → In p → class2 p ≡ class p)
      → Present from2 born2 count r class2
  present_alike from born from2 born2 count r class class2 P sf sb sc = record {
    births = births_agree from born from2 born2 count P.births sf sb;
    known = λ p i. omega (arith, sc p i, P.known p i);
    by_now = λ p i. omega (arith, ap born2 (sc p i), sb (class p) (P.known p i), P.by_now p i);
    used = λ c l. let x = P.used c l in (x.0, x.1, sc x.0 x.1 ∙ x.2);
    rounds = λ n p q l ip iq.
        let h = P.rounds n p q l ip iq in
        ((λ e. h.0 (sym (same n p ip) ∙ e ∙ same n q iq)), (λ t. same n p ip ∙ h.1 t ∙ sym (same n q iq)));
  }
    where
      same : (n : ℕ) (p : M) → In p → in_round from2 born2 n (class2 p) ≡ in_round from born n (class p)
      same n p i =
          ap (in_round from2 born2 n) (sc p i) ∙ climb_agree from born from2 born2 count P.births sf sb (class p) n (class p) (P.known p i)

  -- the present class of a member is its class in round r
  pub present_now : (from born : ℕ → ℕ) (count r : ℕ) (class : M → ℕ) → Present from born count r class
      → (p q : M) → In p → In q → (class p ≡ class q) ↔ Together r p q
  present_now from born count r class P p q ip iq =
      let h = P.rounds r p q (omega arith) ip iq in
      let a : in_round from born r (class p) ≡ class p = in_round_after from born count P.births r (class p) (P.by_now p ip) in
      let b : in_round from born r (class q) ≡ class q = in_round_after from born count P.births r (class q) (P.by_now q iq) in
      ((λ e. h.0 (a ∙ e ∙ sym b)), (λ t. sym a ∙ h.1 t ∙ b))

  -- One round more. Each member keeps its class or has a new one that came from it; the births below the old count are as they
  -- were; and the new classes are the next partition.
  pub present_next : (from born from2 born2 : ℕ → ℕ) (count count2 r : ℕ) (class class2 : M → ℕ)
      → Present from born count r class → count ≤ count2 → Births from2 born2 count2
      → ((c : ℕ) → c < count → from2 c ≡ from c) → ((c : ℕ) → c < count → born2 c ≡ born c)
      → ((p : M) → In p → class2 p < count2)
      → ((p : M) → In p → (class2 p ≡ class p) ⊎ ((from2 (class2 p) ≡ class p) × (born2 (class2 p) ≡ suc r)))
      → ((c : ℕ) → c < count2 → (p : M) × In p × (class2 p ≡ c))
      → ((p q : M) → In p → In q → (class2 p ≡ class2 q) ↔ Together (suc r) p q)
      → Present from2 born2 count2 (suc r) class2
  present_next from born from2 born2 count count2 r class class2 P le B sf sb k w u t = record {
    births = B;
    known = k;
    by_now = λ p i. now p i (w p i);
    used = u;
    rounds = λ n p q l ip iq. ways n p q l ip iq (tested (eqb n (suc r)));
  }
    where
      now : (p : M) → In p → (class2 p ≡ class p) ⊎ ((from2 (class2 p) ≡ class p) × (born2 (class2 p) ≡ suc r)) → born2 (class2 p) ≤ suc r
      now p i (inl e) = omega (arith, ap born2 e, sb (class p) (P.known p i), P.by_now p i)
      now p i (inr e) = omega (arith, e.1)

      before : (n : ℕ) (p : M) → n ≤ r → In p → (class2 p ≡ class p) ⊎ ((from2 (class2 p) ≡ class p) × (born2 (class2 p) ≡ suc r))
          → in_round from2 born2 n (class2 p) ≡ in_round from born n (class p)
      before n p l i (inl e) =
          ap (in_round from2 born2 n) e ∙ climb_agree from born from2 born2 count P.births sf sb (class p) n (class p) (P.known p i)
      before n p l i (inr e) =
          in_round_before from2 born2 count2 B n (class2 p) (k p i) (omega (arith, e.1))
          ∙ ap (in_round from2 born2 n) e.0 ∙ climb_agree from born from2 born2 count P.births sf sb (class p) n (class p)
          (P.known p i)

      ways : (n : ℕ) (p q : M) → n ≤ suc r → In p → In q → Tested (eqb n (suc r))
          → (in_round from2 born2 n (class2 p) ≡ in_round from2 born2 n (class2 q)) ↔ Together n p q
      ways n p q l ip iq (passes y) =
          let e : n ≡ suc r = eqb-true n (suc r) y in
          let a : in_round from2 born2 n (class2 p) ≡ class2 p = in_round_after from2 born2 count2 B n (class2 p) (omega
          (arith, now p ip (w p ip))) in
          let b : in_round from2 born2 n (class2 q) ≡ class2 q = in_round_after from2 born2 count2 B n (class2 q) (omega
          (arith, now q iq (w q iq))) in
          let h = t p q ip iq in (
            (λ x. subst (λ (v : ℕ). Together v p q) (sym e) (h.0 (sym a ∙ x ∙ b))),
            (λ x. a ∙ h.1 (subst (λ (v : ℕ). Together v p q) e x) ∙ sym b),
          )
      ways n p q l ip iq (fails y) =
          let m : n ≤ r = omega (arith, eqb-false n (suc r) y) in
          let h = P.rounds n p q m ip iq in
          let a = before n p m ip (w p ip) in
          let b = before n q m iq (w q iq) in
          ((λ x. h.0 (sym a ∙ x ∙ b)), (λ x. a ∙ h.1 x ∙ sym b))

  -- the first round that has two members apart; suc r where none has
  pub present_apart : (from born : ℕ → ℕ) (count r : ℕ) (class : M → ℕ) → Present from born count r class
      → (p q : M) → In p → In q → (n : ℕ) → n ≤ r → Together n p q ↔ (n < apart from born (suc r) (class p) (class q))
  present_apart from born count r class P p q ip iq n l =
      let h = apart_law from born count P.births (suc r) (class p) (class q) n (P.known p ip) (P.known q iq)
      (omega (arith, P.by_now p ip)) (omega (arith, P.by_now q iq)) (omega arith) in
      let g = P.rounds n p q l ip iq in
      ((λ t. h.0 (g.1 t)), (λ x. g.0 (h.1 x)))

  pub present_apart_le : (from born : ℕ → ℕ) (count r : ℕ) (class : M → ℕ) → Present from born count r class
      → (p q : M) → In p → In q → apart from born (suc r) (class p) (class q) ≤ suc r
  present_apart_le from born count r class P p q ip iq =
      (apart_from from born count P.births (suc (class p + class q)) (suc r) (class p) (class q) (P.known p ip) (P.known q iq)
      (omega arith)
      (omega (arith, P.by_now p ip)) (omega (arith, P.by_now q iq))).at_most

  -- a class born in round m shows two members that the round before had together and round m has apart
  pub born_splits : (from born : ℕ → ℕ) (count r : ℕ) (class : M → ℕ) → Present from born count r class
      → (c m : ℕ) → c < count → born c ≡ suc m → (p : M) × (q : M) × In p × In q × Together m p q × (Together (suc m) p q → ⊥)
  born_splits from born count r class P c m l e =
      let B = P.births in
      let f : from c < c = B.from_lower c l (omega arith) in
      let g : born (from c) < born c = B.from_earlier c l (omega arith) in
      let x = P.used c l in
      let y = P.used (from c) (omega arith) in
      let cx : born (class x.0) ≤ r = P.by_now x.0 x.1 in
      let late : suc m ≤ r = omega (arith, cx, ap born x.2) in
      let one : in_round from born m c ≡ in_round from born m (from c) = in_round_before from born count B m c l (omega arith) in
      let h = P.rounds m x.0 y.0 (omega arith) x.1 y.1 in
      let k = P.rounds (suc m) x.0 y.0 late x.1 y.1 in (
        x.0,
        y.0,
        x.1,
        y.1,
        h.0 (ap (in_round from born m) x.2 ∙ one ∙ sym (ap (in_round from born m) y.2)),
        λ t.
            let z : in_round from born (suc m) c ≡ in_round from born (suc m) (from c) =
            sym (ap (in_round from born (suc m)) x.2) ∙ k.1 t ∙ ap (in_round from born (suc m)) y.2 in
            let a : in_round from born (suc m) c ≡ c = in_round_after from born count B (suc m) c (omega arith) in
            let b : in_round from born (suc m) (from c) ≡ from c = in_round_after from born count B (suc m) (from c) (omega arith) in
            let same : c ≡ from c = sym a ∙ z ∙ b in
            omega arith,
      )
