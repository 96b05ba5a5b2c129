-- The orders of configurations and of moves are strict total orders.
use Rattle.std.specs.Prelude.{◌≡◌, refl, Bool, true, false, cond, List, [], ◌∷◌, ℕ, ◌≤◌, ◌<◌, length, eqb, ltb}
use Rattle.std.proofs.Common.{sym, ap₂, ◌∙◌, arith, eqb-true, eq-eqb, ne_eqb, ltb-true, ltb-false, lt-ltb}
use Rattle.std.proofs.lemmas.Bool.{eqb-false}
use Rattle.sheet_laws.specs.TestLaws.{true_false}
use Rattle.sheet_laws.specs.AscendingLaws.{Order}
use Rattle.moves.specs.Sheet.{Configuration}
use Rattle.moves.specs.Orders.{Move, first_by, leftmost, by_threads, configuration_before, move_before}

module _ {A : Type 0} (f : A → ℕ) (next : A → A → Bool) where
  pub first_by_irreflexive : ((a : A) → next a a ≡ true → ⊥) → (a : A) → first_by f next a a ≡ true → ⊥
  first_by_irreflexive irr a h = irr a (rw (eq-eqb (f a) (f a) refl) at h)

  first_by_cases : (a b : A) → first_by f next a b ≡ true → (c : Bool) → eqb (f a) (f b) ≡ c
      → (cond c (next a b) (ltb (f a) (f b))) ≡ true
  first_by_cases a b h c e = rw e at h

  pub first_by_transitive : ((a b c : A) → next a b ≡ true → next b c ≡ true → next a c ≡ true)
      → (a b c : A) → first_by f next a b ≡ true → first_by f next b c ≡ true → first_by f next a c ≡ true
  first_by_transitive tr a b c h k = go (eqb (f a) (f b)) refl (eqb (f b) (f c)) refl
    where
      go : (s : Bool) → eqb (f a) (f b) ≡ s → (t : Bool) → eqb (f b) (f c) ≡ t → first_by f next a c ≡ true
      go true s true t =
          rw (eq-eqb (f a) (f c) (eqb-true (f a) (f b) s ∙ eqb-true (f b) (f c) t))
          (tr a b c (first_by_cases a b h true s) (first_by_cases b c k true t))
      go true s false t =
          let l : f b < f c = ltb-true (f b) (f c) (first_by_cases b c k false t) in
          let e : f a ≡ f b = eqb-true (f a) (f b) s in
          rw (ne_eqb (f a) (f c) (λ q. omega arith)) (lt-ltb (f a) (f c) (omega arith))
      go false s true t =
          let l : f a < f b = ltb-true (f a) (f b) (first_by_cases a b h false s) in
          let e : f b ≡ f c = eqb-true (f b) (f c) t in
          rw (ne_eqb (f a) (f c) (λ q. omega arith)) (lt-ltb (f a) (f c) (omega arith))
      go false s false t =
          let l : f a < f b = ltb-true (f a) (f b) (first_by_cases a b h false s) in
          let m : f b < f c = ltb-true (f b) (f c) (first_by_cases b c k false t) in
          rw (ne_eqb (f a) (f c) (λ q. omega arith)) (lt-ltb (f a) (f c) (omega arith))

  -- where neither is before the other, the numbers are equal and the rest decides
  pub first_by_total : (a b : A) → first_by f next a b ≡ false → first_by f next b a ≡ false
      → (f a ≡ f b) × (next a b ≡ false) × (next b a ≡ false)
  first_by_total a b h k = go (eqb (f a) (f b)) refl
    where
      go : (s : Bool) → eqb (f a) (f b) ≡ s → (f a ≡ f b) × (next a b ≡ false) × (next b a ≡ false)
      go true s =
          let e : f a ≡ f b = eqb-true (f a) (f b) s in
          (e, rw s at h, rw (eq-eqb (f b) (f a) (sym e)) at k)
      go false s =
          let n : f a ≡ f b → ⊥ = eqb-false (f a) (f b) s in
          let x : f b ≤ f a = ltb-false (f a) (f b) (rw s at h) in
          let y : f a ≤ f b = ltb-false (f b) (f a) (rw (ne_eqb (f b) (f a) (λ q. n (sym q))) at k) in
          absurd (n (omega arith))

pub leftmost_irreflexive : (xs : List ℕ) → leftmost xs xs ≡ true → ⊥
leftmost_irreflexive [] h = true_false false h refl
leftmost_irreflexive (x ∷ xs) h = leftmost_irreflexive xs (rw (eq-eqb x x refl) at h)

pub leftmost_transitive : (xs ys zs : List ℕ) → leftmost xs ys ≡ true → leftmost ys zs ≡ true → leftmost xs zs ≡ true
leftmost_transitive [] ys zs h k = true_false false h refl
leftmost_transitive (x ∷ xs) [] zs h k = true_false false h refl
leftmost_transitive (x ∷ xs) (y ∷ ys) [] h k = true_false false k refl
leftmost_transitive (x ∷ xs) (y ∷ ys) (z ∷ zs) h k = go (leftmost_transitive xs ys zs) (eqb x y) refl (eqb y z) refl h k
  where
    go : (leftmost xs ys ≡ true → leftmost ys zs ≡ true → leftmost xs zs ≡ true)
        → (s : Bool) → eqb x y ≡ s → (t : Bool) → eqb y z ≡ t
        → cond s (leftmost xs ys) (ltb x y) ≡ true → cond t (leftmost ys zs) (ltb y z) ≡ true
        → cond (eqb x z) (leftmost xs zs) (ltb x z) ≡ true
    go ih true s true t h k = rw (eq-eqb x z (eqb-true x y s ∙ eqb-true y z t)) (ih h k)
    go ih true s false t h k =
        let e : x ≡ y = eqb-true x y s in
        let l : y < z = ltb-true y z k in
        rw (ne_eqb x z (λ q. omega arith)) (lt-ltb x z (omega arith))
    go ih false s true t h k =
        let e : y ≡ z = eqb-true y z t in
        let l : x < y = ltb-true x y h in
        rw (ne_eqb x z (λ q. omega arith)) (lt-ltb x z (omega arith))
    go ih false s false t h k =
        let l : x < y = ltb-true x y h in
        let m : y < z = ltb-true y z k in
        rw (ne_eqb x z (λ q. omega arith)) (lt-ltb x z (omega arith))

pub leftmost_total : (xs ys : List ℕ) → length xs ≡ length ys → leftmost xs ys ≡ false → leftmost ys xs ≡ false → xs ≡ ys
leftmost_total [] [] e h k = refl
leftmost_total [] (y ∷ ys) e h k = absurd (omega arith)
leftmost_total (x ∷ xs) [] e h k = absurd (omega arith)
leftmost_total (x ∷ xs) (y ∷ ys) e h k = go (leftmost_total xs ys (omega arith)) (eqb x y) refl h
  where
    go : (leftmost xs ys ≡ false → leftmost ys xs ≡ false → xs ≡ ys) → (s : Bool) → eqb x y ≡ s
        → cond s (leftmost xs ys) (ltb x y) ≡ false → (x ∷ xs) ≡ (y ∷ ys)
    go ih true s h =
        let q : x ≡ y = eqb-true x y s in
        ap₂ (λ (a : ℕ) (l : List ℕ). a ∷ l) q (ih h (rw (eq-eqb y x (sym q)) at k))
    go ih false s h =
        let n : x ≡ y → ⊥ = eqb-false x y s in
        let a : y ≤ x = ltb-false x y h in
        let b : x ≤ y = ltb-false y x (rw (ne_eqb y x (λ q. n (sym q))) at k) in
        absurd (n (omega arith))

abbrev pub configuration_order : Order Configuration
configuration_order = record {
  before = configuration_before;
  irreflexive =
      first_by_irreflexive (λ (p : Configuration). p.store) by_threads
      (first_by_irreflexive (λ (p : Configuration). length p.threads) (λ p q. leftmost p.threads q.threads) (λ p. leftmost_irreflexive p.threads));
  transitive =
      first_by_transitive (λ (p : Configuration). p.store) by_threads
      (first_by_transitive (λ (p : Configuration). length p.threads) (λ p q. leftmost p.threads q.threads)
      (λ p q r. leftmost_transitive p.threads q.threads r.threads));
  total = λ p q h k.
      let a = first_by_total (λ (p : Configuration). p.store) by_threads p q h k in
      let b = first_by_total (λ (p : Configuration). length p.threads) (λ p q. leftmost p.threads q.threads) p q a.1 a.2 in
      ap₂ (λ (s : ℕ) (ts : List ℕ). record { store = s; threads = ts }) a.0 (leftmost_total p.threads q.threads b.0 b.1 b.2);
}

abbrev pub move_order : Order Move
move_order = record {
  before = move_before;
  irreflexive =
      first_by_irreflexive (λ (m : Move). m.label) (λ m k. configuration_before m.target k.target)
      (λ m. configuration_order.irreflexive m.target);
  transitive =
      first_by_transitive (λ (m : Move). m.label) (λ m k. configuration_before m.target k.target)
      (λ m k l. configuration_order.transitive m.target k.target l.target);
  total = λ m k h l.
      let a = first_by_total (λ (m : Move). m.label) (λ m k. configuration_before m.target k.target) m k h l in
      ap₂ (λ (x : ℕ) (t : Configuration). record { label = x; target = t }) a.0 (configuration_order.total m.target k.target a.1 a.2);
}
