-- One place of each class chosen, while places are passed in some order: the last one passed stays.
use Rattle.std.specs.Prelude.{◌≡◌, refl, ◌⊎◌, List, ℕ, ◌+◌, ◌≤◌, ◌<◌, length, set, eqb}
use Rattle.std.proofs.Common.{sym, ap, ◌∙◌, subst, inl, inr, arith, get_or-set_same, get_or-set_other, eqb-true}
use Rattle.std.proofs.lemmas.Bool.{eqb-false}
use Rattle.work_layout.specs.TestLaws.{Tested, tested, passes, fails}
use Rattle.work_layout.specs.Frames.{SameOutside, outside_same, outside_set, outside_again}
use Rattle.class_splits.specs.ClassedPlaces.{chosen_in, Classed}
use Rattle.work_layout.specs.WorkLayout.{work_end, classes_at, chosen_at, lines_at, member_room}
use Rattle.work_layout.specs.ClassLayout.{class_in}

-- Of the class of each place passed one that was passed no earlier is chosen, and the other classes keep their chosen places.
pub record PlacesChosen (Passed : ℕ → Type 0) (NoEarlier : ℕ → ℕ → Type 0) (v w : List ℕ) : Type 0 where
  pub only : SameOutside chosen_at lines_at v w
  pub chosen : (i : ℕ) → Passed i
      → NoEarlier (chosen_in w (class_in v i)) i × Passed (chosen_in w (class_in v i)) × (class_in v (chosen_in w (class_in v i)) ≡ class_in v i)
  pub others : (c : ℕ) → (chosen_in w c ≡ chosen_in v c) ⊎ (Passed (chosen_in w c) × (class_in v (chosen_in w c) ≡ c))

-- no place was passed
pub chosen_none : (Passed : ℕ → Type 0) (NoEarlier : ℕ → ℕ → Type 0) (v : List ℕ) → ((i : ℕ) → Passed i → ⊥) → PlacesChosen Passed NoEarlier v v
chosen_none Passed NoEarlier v none = record {
  only = outside_same chosen_at lines_at v;
  chosen = λ i p. absurd (none i p);
  others = λ c. inl refl;
}

-- the same places were passed
pub chosen_same : {P : ℕ → Type 0} {NoEarlier : ℕ → ℕ → Type 0} {v w : List ℕ} → PlacesChosen P NoEarlier v w → (Q : ℕ → Type 0)
    → ((i : ℕ) → P i → Q i) → ((i : ℕ) → Q i → P i) → PlacesChosen Q NoEarlier v w
chosen_same {P} {NoEarlier} {v} {w} K Q to from = record {
  only = K.only;
  chosen = λ i q. let x = K.chosen i (from i q) in (x.0, to (chosen_in w (class_in v i)) x.1, x.2);
  others = λ c. by c (K.others c);
}
  where
    by : (c : ℕ) → (chosen_in w c ≡ chosen_in v c) ⊎ (P (chosen_in w c) × (class_in v (chosen_in w c) ≡ c))
        → (chosen_in w c ≡ chosen_in v c) ⊎ (Q (chosen_in w c) × (class_in v (chosen_in w c) ≡ c))
    by c (inl e) = inl e
    by c (inr x) = inr (to (chosen_in w c) x.0, x.1)

-- place k, of class c, is passed after all others, and chosen
module _ {P : ℕ → Type 0} {NoEarlier : ℕ → ℕ → Type 0} {v w : List ℕ} (K : PlacesChosen P NoEarlier v w) (Q : ℕ → Type 0) (k : ℕ)
    (to : (i : ℕ) → P i → Q i) (here : Q k) (from : (i : ℕ) → Q i → (i ≡ k → ⊥) → P i) (last : (i : ℕ) → Q i → NoEarlier k i)
    (long : work_end ≤ length v) (c : ℕ) (is : c ≡ class_in v k) (small : c < member_room) where
  pub chosen_next : PlacesChosen Q NoEarlier v (set w (chosen_at + c) k)
  chosen_next = record {
    only = outside_again K.only (outside_set chosen_at lines_at w (chosen_at + c) k (omega arith) (omega arith));
    chosen = λ i q. go i q (tested (eqb (class_in v i) c));
    others = λ b. by b (tested (eqb b c)) (K.others b);
  }
    where
      u : List ℕ
      u = set w (chosen_at + c) k

      mine : (b : ℕ) → b ≡ c → chosen_in u b ≡ k
      mine b e = ap (chosen_in u) e ∙ get_or-set_same w (chosen_at + c) k 0 (omega (arith, K.only.long))

      other : (b : ℕ) → (b ≡ c → ⊥) → chosen_in u b ≡ chosen_in w b
      other b e = get_or-set_other w (chosen_at + c) (chosen_at + b) k 0 (λ z. e (omega arith))

      go : (i : ℕ) → Q i → Tested (eqb (class_in v i) c)
          → NoEarlier (chosen_in u (class_in v i)) i × Q (chosen_in u (class_in v i)) × (class_in v (chosen_in u (class_in v i)) ≡ class_in v i)
      go i q (passes e) =
          let d : class_in v i ≡ c = eqb-true (class_in v i) c e in
          subst (λ (z : ℕ). NoEarlier z i × Q z × (class_in v z ≡ class_in v i)) (sym (mine (class_in v i) d)) (last i q, here, sym is ∙ sym d)
      go i q (fails e) =
          let d : class_in v i ≡ c → ⊥ = eqb-false (class_in v i) c e in
          let y = K.chosen i (from i q (λ z. d (ap (class_in v) z ∙ sym is))) in
          subst (λ (z : ℕ). NoEarlier z i × Q z × (class_in v z ≡ class_in v i)) (sym (other (class_in v i) d))
          (y.0, to (chosen_in w (class_in v i)) y.1, y.2)

      by : (b : ℕ) → Tested (eqb b c) → (chosen_in w b ≡ chosen_in v b) ⊎ (P (chosen_in w b) × (class_in v (chosen_in w b) ≡ b))
          → (chosen_in u b ≡ chosen_in v b) ⊎ (Q (chosen_in u b) × (class_in v (chosen_in u b) ≡ b))
      by b (passes e) x =
          let q : b ≡ c = eqb-true b c e in
          inr (subst (λ (z : ℕ). Q z × (class_in v z ≡ b)) (sym (mine b q)) (here, sym is ∙ sym q))
      by b (fails e) (inl x) = inl (other b (eqb-false b c e) ∙ x)
      by b (fails e) (inr x) =
          inr (subst (λ (z : ℕ). Q z × (class_in v z ≡ b)) (sym (other b (eqb-false b c e))) (to (chosen_in w b) x.0, x.1))

module _ {P : ℕ → Type 0} {NoEarlier : ℕ → ℕ → Type 0} {v w : List ℕ} (K : PlacesChosen P NoEarlier v w) where
  -- classes are left alone
  pub chosen_class : (i : ℕ) → i < member_room → class_in w i ≡ class_in v i
  chosen_class i l = K.only.at (classes_at + i) (inl (omega arith))

  -- each class keeps a chosen place
  pub chosen_classed : {n count : ℕ} → ((i : ℕ) → P i → i < n) → n ≤ member_room → Classed v n count → Classed w n count
  chosen_classed {n} {count} inside few C = record {
    known = λ i l. omega (arith, chosen_class i (omega arith), C.known i l);
    chosen_in_lem = λ c l. (one c l (K.others c)).0;
    chosen_of = λ c l. let x = one c l (K.others c) in chosen_class (chosen_in w c) (omega (arith, x.0)) ∙ x.1;
  }
    where
      one : (c : ℕ) → c < count → (chosen_in w c ≡ chosen_in v c) ⊎ (P (chosen_in w c) × (class_in v (chosen_in w c) ≡ c))
          → (chosen_in w c < n) × (class_in v (chosen_in w c) ≡ c)
      one c l (inl e) = (omega (arith, C.chosen_in_lem c l), ap (class_in v) e ∙ C.chosen_of c l)
      one c l (inr x) = (inside (chosen_in w c) x.0, x.1)
