-- Classes that keep their numbers. When a class splits, one part keeps the number, and each other part gets a new one,
-- with the class it came from and the round. The class of a member in an earlier round is reached by climbing, and the first
-- round that has two members apart by climbing from the higher of their two classes.
use Rattle.std.specs.Prelude.{◌≡◌, ◌↔◌, true, false, eqb, ltb}
use Rattle.std.proofs.Math.Path.{refl}
use Rattle.std.proofs.Common.{sym, ap, ◌∙◌, subst, arith}
use Prim.Native.Nat.{ℕ, zero, suc, ◌+◌, ◌≤◌, ◌<◌, min, max}
use borrow.Author.Tests.{lt-ltb, le-ltb, ltb-true, ltb-false, eqb-true, eqb-false, eq-eqb, ne_eqb}
use Rattle.work_layout.specs.TestLaws.{Tested, tested, passes, fails}

module _ (from born : ℕ → ℕ) where
  -- from class c upwards to the first class that is no younger than round n; at most k steps
  unfoldable pub climb : ℕ → ℕ → ℕ → ℕ
  climb zero n c = c
  climb (suc k) n c = elim (ltb n (born c)) [ true ↦ climb k n (from c) | false ↦ c ]

  -- the class of round n that class c is part of
  abbrev pub in_round : ℕ → ℕ → ℕ
  in_round n c = climb c n c

  -- The first round that has two apart: while their classes differ, the higher number is replaced by the class it came from;
  -- the round of the last one replaced is the answer, r where the two are the same from the start, 0 for two founders.
  unfoldable pub apart_from_lem : ℕ → ℕ → ℕ → ℕ → ℕ
  apart_from_lem zero r a b = r
  apart_from_lem (suc k) r a b =
      elim (eqb a b) [
        | true ↦ r
        | false ↦ elim (eqb (born (max a b)) 0) [ true ↦ 0 | false ↦ apart_from_lem k (born (max a b)) (min a b) (from (max a b)) ]
      ]

  abbrev pub apart : ℕ → ℕ → ℕ → ℕ
  apart r a b = apart_from_lem (suc (a + b)) r a b

  -- classes below `count` were born one after the other, each but the founders from one that the round before had
  pub record Births (count : ℕ) : Type 0 where
    pub in_order : (a b : ℕ) → a ≤ b → b < count → born a ≤ born b
    pub from_lower : (c : ℕ) → c < count → 0 < born c → from c < c
    pub from_earlier : (c : ℕ) → c < count → 0 < born c → born (from c) < born c

  -- ---- climbing
  pub climb_up : (k n c : ℕ) → n < born c → climb (suc k) n c ≡ climb k n (from c)
  unfolding climb
  climb_up k n c h = rw (climb, lt-ltb n (born c) h)

  pub climb_stay : (k n c : ℕ) → born c ≤ n → climb k n c ≡ c
  unfolding climb
  climb_stay zero n c h = refl
  climb_stay (suc k) n c h = rw (climb, le-ltb n (born c) h)

  -- ---- one step of the search for the first round apart
  pub apart_same : (k r a b : ℕ) → a ≡ b → apart_from_lem (suc k) r a b ≡ r
  unfolding apart_from_lem
  apart_same k r a b e = rw (apart_from_lem, eq-eqb a b e)

  pub apart_founders : (k r a b : ℕ) → (a ≡ b → ⊥) → born (max a b) ≡ 0 → apart_from_lem (suc k) r a b ≡ 0
  unfolding apart_from_lem
  apart_founders k r a b d e = rw (apart_from_lem, ne_eqb a b d, eq-eqb (born (max a b)) 0 e)

  pub apart_up : (k r a b : ℕ) → (a ≡ b → ⊥) → (born (max a b) ≡ 0 → ⊥)
      → apart_from_lem (suc k) r a b ≡ apart_from_lem k (born (max a b)) (min a b) (from (max a b))
  unfolding apart_from_lem
  apart_up k r a b d e = rw (apart_from_lem, ne_eqb a b d, ne_eqb (born (max a b)) 0 e)

  module _ (count : ℕ) (B : Births count) where
    -- class 0 is a founder
    pub first_founder : (c : ℕ) → c < count → c ≤ 0 → born c ≡ 0
    first_founder c l h = go (tested (ltb 0 (born c)))
      where
        go : Tested (ltb 0 (born c)) → born c ≡ 0
        go (passes y) = absurd (omega (arith, B.from_lower c l (ltb-true 0 (born c) y)))
        go (fails y) = omega (arith, ltb-false 0 (born c) y)

    -- as many steps as the number are enough
    pub climb_enough : (k j n c : ℕ) → c < count → c ≤ k → c ≤ j → climb k n c ≡ climb j n c
    climb_enough zero j n c l hk hj =
        let s : born c ≤ n = omega (arith, first_founder c l hk) in
        climb_stay 0 n c s ∙ sym (climb_stay j n c s)
    climb_enough (suc k) zero n c l hk hj =
        let s : born c ≤ n = omega (arith, first_founder c l hj) in
        climb_stay (suc k) n c s ∙ sym (climb_stay 0 n c s)
    climb_enough (suc k) (suc j) n c l hk hj = go (climb_enough k j n (from c)) (tested (ltb n (born c)))
      where
        go : (from c < count → from c ≤ k → from c ≤ j → climb k n (from c) ≡ climb j n (from c)) → Tested (ltb n (born c))
            → climb (suc k) n c ≡ climb (suc j) n c
        go ih (passes y) =
            let b : n < born c = ltb-true n (born c) y in
            let f : from c < c = B.from_lower c l (omega arith) in
            climb_up k n c b ∙ ih (omega arith) (omega arith) (omega arith) ∙ sym (climb_up j n c b)
        go ih (fails y) =
            let b : born c ≤ n = ltb-false n (born c) y in
            climb_stay (suc k) n c b ∙ sym (climb_stay (suc j) n c b)

    -- in the rounds before its birth a class was part of the one it came from
    pub in_round_before : (n c : ℕ) → c < count → n < born c → in_round n c ≡ in_round n (from c)
    in_round_before n c l h =
        let f : from c < c = B.from_lower c l (omega arith) in
        climb_enough c (suc c) n c l (omega arith) (omega arith) ∙ climb_up c n c h ∙ climb_enough c (from c) n (from c)
        (omega arith) (omega arith) (omega arith)

    -- from its birth on it has its own number
    pub in_round_after : (n c : ℕ) → born c ≤ n → in_round n c ≡ c
    in_round_after n c h = climb_stay c n c h

    -- the class of round n was born by then
    pub in_round_born : (n c : ℕ) → c < count → born (in_round n c) ≤ n
    in_round_born n c l = within (suc c) c l (omega arith)
      where
        within : (k c : ℕ) → c < count → c < k → born (in_round n c) ≤ n
        within zero c l h = absurd (omega arith)
        within (suc k) c l h = go (within k (from c)) (tested (ltb n (born c)))
          where
            go : (from c < count → from c < k → born (in_round n (from c)) ≤ n) → Tested (ltb n (born c)) → born (in_round n c) ≤ n
            go ih (passes y) =
                let b : n < born c = ltb-true n (born c) y in
                let f : from c < c = B.from_lower c l (omega arith) in
                rw (in_round_before n c l b) (ih (omega arith) (omega arith))
            go ih (fails y) = let b : born c ≤ n = ltb-false n (born c) y in rw (in_round_after n c b) b

    -- ---- the first round that has two apart
    pub record Apart (r a b : ℕ) (answer : ℕ) : Type 0 where
      -- the answer is r or a round of the births met
      pub at_most : answer ≤ r
      -- before it the two are part of one class
      pub together : (n : ℕ) → n < answer → in_round n a ≡ in_round n b
      -- from it on, before r, they are not
      pub separate : (n : ℕ) → answer ≤ n → n < r → in_round n a ≡ in_round n b → ⊥

    -- two different classes have their own numbers from the birth of the higher one on
    own_numbers : (n a b : ℕ) → a < count → b < count → (a ≡ b → ⊥) → born (max a b) ≤ n → in_round n a ≡ in_round n b → ⊥
    own_numbers n a b la lb d h e =
        let m : ℕ = max a b in
        let x : born a ≤ n = omega (arith, B.in_order a (max a b) (omega arith) (omega arith)) in
        let y : born b ≤ n = omega (arith, B.in_order b (max a b) (omega arith) (omega arith)) in
        d (sym (in_round_after n a x) ∙ e ∙ in_round_after n b y)

    apart_turned : {r a b x : ℕ} → Apart r a b x → Apart r b a x
    apart_turned A = record {
      at_most = A.at_most;
      together = λ n h. sym (A.together n h);
      separate = λ n h l e. A.separate n h l (sym e);
    }

    -- from the higher one's parent to the higher one
    apart_lifted : (r lo hi x : ℕ) → lo < hi → hi < count → 0 < born hi → born hi ≤ r → Apart (born hi) lo (from hi) x → Apart r lo hi x
    apart_lifted r lo hi x l c z h A = record {
      at_most = omega (arith, A.at_most);
      together = λ n k. A.together n k ∙ sym (in_round_before n hi c (omega (arith, A.at_most)));
      separate = λ n k m e. go n k e (tested (ltb n (born hi)));
    }
      where
        go : (n : ℕ) → x ≤ n → in_round n lo ≡ in_round n hi → Tested (ltb n (born hi)) → ⊥
        go n k e (passes y) =
            let b : n < born hi = ltb-true n (born hi) y in
            A.separate n k b (e ∙ in_round_before n hi c b)
        go n k e (fails y) =
            own_numbers n lo hi (omega arith) c (λ s. omega arith)
            (let m : max lo hi ≡ hi = omega arith in subst (λ (v : ℕ). born v ≤ n) (sym m) (ltb-false n (born hi) y)) e

    -- what the search answers, from any two classes born by round r
    pub apart_from : (k r a b : ℕ) → a < count → b < count → a + b < k → born a ≤ r → born b ≤ r → Apart r a b (apart_from_lem k r a b)
    apart_from zero r a b la lb h ra rb = absurd (omega arith)
    apart_from (suc k) r a b la lb h ra rb = go (apart_from k) (tested (eqb a b)) (tested (eqb (born (max a b)) 0))
      where
        up : ((r a b : ℕ) → a < count → b < count → a + b < k → born a ≤ r → born b ≤ r → Apart r a b (apart_from_lem k r a b))
            → (lo hi : ℕ) → lo < hi → hi < count → lo + hi < suc k → 0 < born hi → born hi ≤ r
            → Apart r lo hi (apart_from_lem k (born hi) lo (from hi))
        up ih lo hi l c s z h =
            let f : from hi < hi = B.from_lower hi c z in
            let g : born (from hi) < born hi = B.from_earlier hi c z in
            let o : born lo ≤ born hi = B.in_order lo hi (omega arith) c in
            apart_lifted r lo hi (apart_from_lem k (born hi) lo (from hi)) l c z h (ih (born hi) lo (from hi) (omega arith) (omega arith)
            (omega arith) o (omega arith))

        ways : ((r a b : ℕ) → a < count → b < count → a + b < k → born a ≤ r → born b ≤ r → Apart r a b (apart_from_lem k r a b))
            → (a ≡ b → ⊥) → (born (max a b) ≡ 0 → ⊥) → Tested (ltb a b)
            → Apart r a b (apart_from_lem k (born (max a b)) (min a b) (from (max a b)))
        ways ih d z (passes y) =
            let l : a < b = ltb-true a b y in
            let e : max a b ≡ b = omega arith in
            let f : min a b ≡ a = omega arith in
            let w : born b ≡ 0 → ⊥ = subst (λ (v : ℕ). born v ≡ 0 → ⊥) e z in
            rw (e, f) (up ih a b l lb h (omega (arith, w)) rb)
        ways ih d z (fails y) =
            let l : b < a = omega (arith, ltb-false a b y, d) in
            let e : max a b ≡ a = omega arith in
            let f : min a b ≡ b = omega arith in
            let w : born a ≡ 0 → ⊥ = subst (λ (v : ℕ). born v ≡ 0 → ⊥) e z in
            rw (e, f) (apart_turned (up ih b a l la (omega arith) (omega (arith, w)) ra))

        go : ((r a b : ℕ) → a < count → b < count → a + b < k → born a ≤ r → born b ≤ r → Apart r a b (apart_from_lem k r a b))
            → Tested (eqb a b) → Tested (eqb (born (max a b)) 0) → Apart r a b (apart_from_lem (suc k) r a b)
        go ih (passes y) t =
            let e : a ≡ b = eqb-true a b y in
            rw (apart_same k r a b e) (record {
              at_most = omega arith;
              together = λ n l. ap (in_round n) e;
              separate = λ n l m _. omega arith;
            })
        go ih (fails y) (passes z) =
            let d : a ≡ b → ⊥ = eqb-false a b y in
            let m : born (max a b) ≡ 0 = eqb-true (born (max a b)) 0 z in
            rw (apart_founders k r a b d m) (record {
              at_most = omega arith;
              together = λ n l. absurd (omega arith);
              separate = λ n l x e. own_numbers n a b la lb d (omega arith) e;
            })
        go ih (fails y) (fails z) =
            let d : a ≡ b → ⊥ = eqb-false a b y in
            let m : born (max a b) ≡ 0 → ⊥ = eqb-false (born (max a b)) 0 z in
            rw (apart_up k r a b d m) (ways ih d m (tested (ltb a b)))

    -- Two present classes, all births in rounds below r: in each round below r they are part of one class exactly when
    -- the round is below the answer, which is r where the two are one class.
    pub apart_law : (r a b n : ℕ) → a < count → b < count → born a ≤ r → born b ≤ r → n < r
        → (in_round n a ≡ in_round n b) ↔ (n < apart r a b)
    apart_law r a b n la lb ra rb l =
        let A = apart_from (suc (a + b)) r a b la lb (omega arith) ra rb in
        (λ e. go A e (tested (ltb n (apart r a b))), λ h. A.together n h)
      where
        go : Apart r a b (apart r a b) → in_round n a ≡ in_round n b → Tested (ltb n (apart r a b)) → n < apart r a b
        go A e (passes y) = ltb-true n (apart r a b) y
        go A e (fails y) = absurd (A.separate n (ltb-false n (apart r a b) y) l e)

    -- where the two differ, r does not matter
    pub apart_any : (k r s a b : ℕ) → (a ≡ b → ⊥) → apart_from_lem (suc k) r a b ≡ apart_from_lem (suc k) s a b
    apart_any k r s a b d = go (tested (eqb (born (max a b)) 0))
      where
        go : Tested (eqb (born (max a b)) 0) → apart_from_lem (suc k) r a b ≡ apart_from_lem (suc k) s a b
        go (passes z) =
            let m : born (max a b) ≡ 0 = eqb-true (born (max a b)) 0 z in
            apart_founders k r a b d m ∙ sym (apart_founders k s a b d m)
        go (fails z) =
            let m : born (max a b) ≡ 0 → ⊥ = eqb-false (born (max a b)) 0 z in
            apart_up k r a b d m ∙ sym (apart_up k s a b d m)

    -- the same for two different classes and every round
    pub apart_differ : (r a b n : ℕ) → a < count → b < count → (a ≡ b → ⊥) → (in_round n a ≡ in_round n b) ↔ (n < apart r a b)
    apart_differ r a b n la lb d =
        let s : ℕ = suc (n + born a + born b) in
        let l = apart_law s a b n la lb (omega arith) (omega arith) (omega arith) in
        let e : apart s a b ≡ apart r a b = apart_any (a + b) s r a b d in
        (λ x. subst (λ (v : ℕ). n < v) e (l.0 x), λ h. l.1 (subst (λ (v : ℕ). n < v) (sym e) h))
