-- Laws of a set's places that are listed word by word, and those of a word from its lowest digit up.
use Rattle.std.specs.Prelude.{◌≡◌, refl, ◌⊎◌, Bool, true, false, List, ℕ, zero, suc, ◌+◌, ◌*◌, ◌/◌, ◌%◌, ◌≤◌, ◌<◌, min, eqb, ltb, length, get_or, set}
use Rattle.std.proofs.Common.{sym, ap, ◌∙◌, inl, inr, ⊎_elim, arith, get_or-set_same, get_or-set_other, eqb-true, ltb-true, ltb-false}
use Rattle.std.proofs.lemmas.Bool.{eqb-false}
use Rattle.store_laws.specs.FactSets.{digit}
use Rattle.store_laws.specs.FactSetLaws.{zero_digit}
use Rattle.place_sets.specs.DigitLaws.{Lowest, lowest_later}
use Rattle.place_sets.specs.PlaceSets.{InSet, Listed}

-- ascending numbers below m are at most m
below_few : (list : List ℕ) (r m : ℕ) → ((j k : ℕ) → j < k → k < r → get_or list j 0 < get_or list k 0)
    → ((j : ℕ) → j < r → get_or list j 0 < m) → r ≤ m
below_few list zero m up h = omega arith
below_few list (suc r) m up h = omega (arith, climbs r (omega arith), h r (omega arith))
  where
    climbs : (j : ℕ) → j < suc r → j ≤ get_or list j 0
    climbs zero l = omega arith
    climbs (suc j) l = omega (arith, climbs j (omega arith), up j (suc j) (omega arith) l)

-- The places of the words before word k are listed, and those of word k but the digits of `rest`, which are higher. Behind them stands
-- what the old list has there.
pub record Partly (ws : List ℕ) (n k rest : ℕ) (old list : List ℕ) (a : ℕ) : Type 0 where
  pub ascends : (j l : ℕ) → j < l → l < a → get_or list j 0 < get_or list l 0
  pub inside : (j : ℕ) → j < a → (get_or list j 0 < n) × (get_or list j 0 < 64 * k + 64) × InSet ws 0 (get_or list j 0)
  pub before : (j d : ℕ) → j < a → digit rest d ≡ 1 → get_or list j 0 < 64 * k + d
  pub within : (d : ℕ) → digit rest d ≡ 1 → digit (get_or ws k 0) d ≡ 1
  pub all : (i : ℕ) → i < n → i < 64 * k + 64 → InSet ws 0 i
      → ((64 * k ≤ i) × (digit rest (i % 64) ≡ 1)) ⊎ ((j : ℕ) × (j < a) × (get_or list j 0 ≡ i))
  pub kept : (j : ℕ) → a ≤ j → get_or list j 0 ≡ get_or old j 0

-- the listed places are no more than the numbers below the next one
pub partly_room : {ws : List ℕ} {n k rest : ℕ} {old list : List ℕ} {a : ℕ} → Partly ws n k rest old list a → (d : ℕ) → digit rest d ≡ 1 → a ≤ 64 * k + d
partly_room {k = k} {list = list} {a} p d h = below_few list a (64 * k + d) p.ascends (λ j l. p.before j d l h)

-- ---- before word k, no digit of it is looked at
pub partly_first : {ws : List ℕ} {n k : ℕ} {old list : List ℕ} {a : ℕ} → Listed ws (min n (64 * k)) old list a
    → Partly ws n k (get_or ws k 0) old list a
partly_first {ws} {n} {k} {old} {list} {a} r =
    record {
      ascends = r.ascends;
      inside = λ j l. let h = r.inside j l in (omega (arith, h.0), omega (arith, h.0), h.1);
      before = λ j d l h. omega (arith, (r.inside j l).0);
      within = λ d h. h;
      all = λ i l m h. go i l m h (ltb i (64 * k)) refl;
      kept = r.rest;
    }
  where
    go : (i : ℕ) → i < n → i < 64 * k + 64 → InSet ws 0 i → (b : Bool) → ltb i (64 * k) ≡ b
        → ((64 * k ≤ i) × (digit (get_or ws k 0) (i % 64) ≡ 1)) ⊎ ((j : ℕ) × (j < a) × (get_or list j 0 ≡ i))
    go i l m h true e = let q : i < 64 * k = ltb-true i (64 * k) e in inr (r.all i (omega arith) h)
    go i l m h false e =
        let q : 64 * k ≤ i = ltb-false i (64 * k) e in
        let w : 0 + i / 64 ≡ k = omega arith in
        inl (q, ap (λ (x : ℕ). digit (get_or ws x 0) (i % 64)) (sym w) ∙ h)

-- ---- the next digit of word k, and its place put behind the listed ones where it is below n
module _ {ws : List ℕ} {n k rest : ℕ} {old list : List ℕ} {a t m : ℕ} (p : Partly ws n k rest old list a) (o : Lowest rest t m) (small : t < 64) where
  left_in : (d : ℕ) → digit m d ≡ 1 → digit (get_or ws k 0) d ≡ 1
  left_in d h = p.within d (lowest_later o d h).1

  -- place i of word k is the one of digit t, or its digit is still left
  digit_of : (i : ℕ) → 64 * k ≤ i → i < 64 * k + 64 → digit rest (i % 64) ≡ 1 → (i ≡ 64 * k + t) ⊎ (digit m (i % 64) ≡ 1)
  digit_of i l h d = go (eqb (i % 64) t) refl
    where
      go : (b : Bool) → eqb (i % 64) t ≡ b → (i ≡ 64 * k + t) ⊎ (digit m (i % 64) ≡ 1)
      go true e = let q : i % 64 ≡ t = eqb-true (i % 64) t e in inl (omega arith)
      go false e = inr (o.same (i % 64) (eqb-false (i % 64) t e) ∙ d)

  pub partly_past : n ≤ 64 * k + t → Partly ws n k m old list a
  partly_past high =
      record {
        ascends = p.ascends;
        inside = p.inside;
        before = λ j d l h. p.before j d l (lowest_later o d h).1;
        within = left_in;
        all = λ i l h s.
            ⊎_elim
            (λ (q : (64 * k ≤ i) × (digit rest (i % 64) ≡ 1)).
            ⊎_elim (λ (e : i ≡ 64 * k + t). absurd (omega arith)) (λ (d : digit m (i % 64) ≡ 1). inl (q.0, d)) (digit_of i q.0 h q.1))
            (λ (q : (j : ℕ) × (j < a) × (get_or list j 0 ≡ i)). inr q) (p.all i l h s);
        kept = p.kept;
      }

  pub partly_put : 64 * k + t < n → a < length list → Partly ws n k m old (set list a (64 * k + t)) (a + 1)
  partly_put low room =
      record {
        ascends = λ j l h q. up j l h q (eqb l a) refl;
        inside = λ j l. in_set j l (eqb j a) refl;
        before = λ j d l h. lower j d l h (eqb j a) refl;
        within = left_in;
        all = λ i l h s.
            ⊎_elim
            (λ (q : (64 * k ≤ i) × (digit rest (i % 64) ≡ 1)).
            ⊎_elim (λ (e : i ≡ 64 * k + t). inr (a, omega arith, new ∙ sym e)) (λ (d : digit m (i % 64) ≡ 1). inl (q.0, d))
            (digit_of i q.0 h q.1))
            (λ (q : (j : ℕ) × (j < a) × (get_or list j 0 ≡ i)). inr (q.0, omega (arith, q.1), same q.0 q.1 ∙ q.2)) (p.all i l h s);
        kept = λ j l. get_or-set_other list a j (64 * k + t) 0 (λ (e : j ≡ a). omega arith) ∙ p.kept j (omega arith);
      }
    where
      put : List ℕ
      put = set list a (64 * k + t)

      new : get_or put a 0 ≡ 64 * k + t
      new = get_or-set_same list a (64 * k + t) 0 room

      same : (j : ℕ) → j < a → get_or put j 0 ≡ get_or list j 0
      same j l = get_or-set_other list a j (64 * k + t) 0 (λ (e : j ≡ a). omega arith)

      kept : (j : ℕ) → j < a + 1 → eqb j a ≡ false → j < a
      kept j l e = let other : j ≡ a → ⊥ = eqb-false j a e in omega arith

      up : (j l : ℕ) → j < l → l < a + 1 → (b : Bool) → eqb l a ≡ b → get_or put j 0 < get_or put l 0
      up j l h q true e =
          let last : l ≡ a = eqb-true l a e in
          omega (arith, same j (omega arith), new, ap (λ (x : ℕ). get_or put x 0) last, p.before j t (omega arith) o.one)
      up j l h q false e =
          let less : l < a = kept l q e in
          omega (arith, same j (omega arith), same l less, p.ascends j l h less)

      in_set : (j : ℕ) → j < a + 1 → (b : Bool) → eqb j a ≡ b → (get_or put j 0 < n) × (get_or put j 0 < 64 * k + 64) × InSet ws 0 (get_or put j 0)
      in_set j l true e =
          let v : get_or put j 0 ≡ 64 * k + t = ap (λ (x : ℕ). get_or put x 0) (eqb-true j a e) ∙ new in
          let w : 0 + (64 * k + t) / 64 ≡ k = omega arith in
          let d : (64 * k + t) % 64 ≡ t = omega arith in (
            omega arith,
            omega arith,
            ap (λ (x : ℕ). digit (get_or ws (0 + x / 64) 0) (x % 64)) v ∙ ap (λ (x : ℕ). digit (get_or ws x 0) ((64 * k + t) % 64)) w
                ∙ ap (λ (x : ℕ). digit (get_or ws k 0) x) d ∙ p.within t o.one,
          )
      in_set j l false e =
          let less : j < a = kept j l e in
          let v : get_or put j 0 ≡ get_or list j 0 = same j less in
          let h = p.inside j less in
          (omega (arith, h.0), omega (arith, h.1), ap (λ (x : ℕ). digit (get_or ws (0 + x / 64) 0) (x % 64)) v ∙ h.2)

      lower : (j d : ℕ) → j < a + 1 → digit m d ≡ 1 → (b : Bool) → eqb j a ≡ b → get_or put j 0 < 64 * k + d
      lower j d l h true e = omega (arith, ap (λ (x : ℕ). get_or put x 0) (eqb-true j a e), new, (lowest_later o d h).0)
      lower j d l h false e = let less : j < a = kept j l e in omega (arith, same j less, p.before j d less (lowest_later o d h).1)

-- ---- no digit of word k is left
pub partly_last : {ws : List ℕ} {n k : ℕ} {old list : List ℕ} {a : ℕ} → Partly ws n k 0 old list a → Listed ws (min n (64 * k + 64)) old list a
partly_last {ws} {n} {k} {old} {list} {a} p =
    record {
      few = below_few list a (min n (64 * k + 64)) p.ascends (λ j l. low j l);
      ascends = p.ascends;
      inside = λ j l. (low j l, (p.inside j l).2);
      all = λ i l h.
          ⊎_elim (λ (q : (64 * k ≤ i) × (digit 0 (i % 64) ≡ 1)). absurd (omega (arith, zero_digit (i % 64), q.1)))
          (λ (q : (j : ℕ) × (j < a) × (get_or list j 0 ≡ i)). q) (p.all i (omega arith) (omega arith) h);
      rest = p.kept;
    }
  where
    low : (j : ℕ) → j < a → get_or list j 0 < min n (64 * k + 64)
    low j l = let h = p.inside j l in omega (arith, h.0, h.1)

-- ---- the words one after the other
pub listed_none : (ws : List ℕ) (n : ℕ) (list : List ℕ) → Listed ws (min n (64 * 0)) list list 0
listed_none ws n list =
    record {
      few = omega arith;
      ascends = λ j k h l. absurd (omega arith);
      inside = λ j l. absurd (omega arith);
      all = λ i l h. absurd (omega arith);
      rest = λ j l. refl;
    }

-- places listed behind those that were listed from an older list on
pub listed_on : {ws : List ℕ} {n m : ℕ} {old list next : List ℕ} {a b : ℕ} → Listed ws n old list a → a ≤ b → Listed ws m list next b
    → Listed ws m old next b
listed_on h k g =
    record { few = g.few; ascends = g.ascends; inside = g.inside; all = g.all; rest = λ j l. g.rest j l ∙ h.rest j (omega arith) }
