-- Two lists of one length that differ in a part only: what is left alone by code that stores in that part.
use Rattle.std.specs.Prelude.{◌≡◌, refl, ◌⊎◌, Bool, true, false, List, ℕ, ◌+◌, ◌-◌, ◌≤◌, ◌<◌, length, get_or, set, take, drop, ltb}
use Rattle.std.proofs.Common.{sym, ap, ◌∙◌, inl, inr, arith, length-set, length-take, length-drop, ltb-true, ltb-false, get_or-set_other, get_or-take, get_or-drop, ext_get_or}

-- w has the length of v and its numbers below place a and from place b on
pub record SameOutside (a b : ℕ) (v w : List ℕ) : Type 0 where
  pub long : length w ≡ length v
  pub at : (i : ℕ) → (i < a) ⊎ (b ≤ i) → get_or w i 0 ≡ get_or v i 0

pub outside_same : (a b : ℕ) (v : List ℕ) → SameOutside a b v v
outside_same a b v = record { long = refl; at = λ i h. refl }

-- one number stored inside the bounds
pub outside_set : (a b : ℕ) (v : List ℕ) (i x : ℕ) → a ≤ i → i < b → SameOutside a b v (set v i x)
outside_set a b v i x h k = record { long = length-set v i x; at = λ j o. get_or-set_other v i j x 0 (other j o) }
  where
    other : (j : ℕ) → (j < a) ⊎ (b ≤ j) → j ≡ i → ⊥
    other j (inl l) e = omega arith
    other j (inr l) e = omega arith

-- the same within wider bounds
pub outside_wider : {a b : ℕ} {v w : List ℕ} → SameOutside a b v w → (low high : ℕ) → low ≤ a → b ≤ high → SameOutside low high v w
outside_wider {a} {b} {v} {w} s low high h k = record { long = s.long; at = go }
  where
    go : (i : ℕ) → (i < low) ⊎ (high ≤ i) → get_or w i 0 ≡ get_or v i 0
    go i (inl l) = s.at i (inl (omega arith))
    go i (inr l) = s.at i (inr (omega arith))

-- one change after another, within bounds that hold both
pub outside_then : {a b c d : ℕ} {u v w : List ℕ} → SameOutside a b u v → SameOutside c d v w → (low high : ℕ)
    → low ≤ a → low ≤ c → b ≤ high → d ≤ high → SameOutside low high u w
outside_then s t low high h k l m =
    let x = outside_wider s low high h l in
    let y = outside_wider t low high k m in
    record { long = y.long ∙ x.long; at = λ i o. y.at i o ∙ x.at i o }

-- what stands before the part and what stands after it is the same
pub outside_of_ends : (a b : ℕ) (v w : List ℕ) → length w ≡ length v → take a w ≡ take a v → drop b w ≡ drop b v → SameOutside a b v w
outside_of_ends a b v w l p q = record { long = l; at = go }
  where
    go : (i : ℕ) → (i < a) ⊎ (b ≤ i) → get_or w i 0 ≡ get_or v i 0
    go i (inl h) = sym (get_or-take a w i 0 h) ∙ ap (λ (z : List ℕ). get_or z i 0) p ∙ get_or-take a v i 0 h
    go i (inr h) =
        let e : i ≡ b + (i - b) = omega arith in
        ap (λ (k : ℕ). get_or w k 0) e ∙ sym (get_or-drop b w (i - b) 0) ∙ ap (λ (z : List ℕ). get_or z (i - b) 0) q
        ∙ get_or-drop b v (i - b) 0 ∙ ap (λ (k : ℕ). get_or v k 0) (sym e)

module _ {a b : ℕ} {v w : List ℕ} (s : SameOutside a b v w) where
  pub outside_take : take a w ≡ take a v
  outside_take =
      ext_get_or 0 (take a w) (take a v) (simp length-take (omega (arith, s.long)))
      (λ i h.
      let l : i < a = omega (arith, h, length-take a w) in
      get_or-take a w i 0 l ∙ s.at i (inl l) ∙ sym (get_or-take a v i 0 l))

  pub outside_drop : drop b w ≡ drop b v
  outside_drop =
      ext_get_or 0 (drop b w) (drop b v) (simp length-drop (omega (arith, s.long)))
      (λ i h. get_or-drop b w i 0 ∙ s.at (b + i) (inr (omega arith)) ∙ sym (get_or-drop b v i 0))

  -- and so is a part that ends before it or starts after it
  pub outside_part : (from n : ℕ) → (from + n ≤ a) ⊎ (b ≤ from) → take n (drop from w) ≡ take n (drop from v)
  outside_part from n o =
      ext_get_or 0 (take n (drop from w)) (take n (drop from v)) (simp (length-take, length-drop) (omega (arith, s.long)))
      (λ i h.
      let l : i < n = omega (arith, h, length-take n (drop from w)) in
      get_or-take n (drop from w) i 0 l ∙ get_or-drop from w i 0 ∙ s.at (from + i) (go i l o) ∙ sym (get_or-drop from v i 0)
      ∙ sym (get_or-take n (drop from v) i 0 l))
    where
      go : (i : ℕ) → i < n → (from + n ≤ a) ⊎ (b ≤ from) → (from + i < a) ⊎ (b ≤ from + i)
      go i l (inl h) = inl (omega arith)
      go i l (inr h) = inr (omega arith)

-- lists that are the same in the part and outside it are the same
pub outside_whole : (n : ℕ) {a : ℕ} {v w : List ℕ} → SameOutside a (a + n) v w → take n (drop a w) ≡ take n (drop a v) → w ≡ v
outside_whole n {a} {v} {w} s e = ext_get_or 0 w v s.long (λ i h. go i (ltb i a) refl (ltb i (a + n)) refl)
  where
    go : (i : ℕ) → (p : Bool) → ltb i a ≡ p → (q : Bool) → ltb i (a + n) ≡ q → get_or w i 0 ≡ get_or v i 0
    go i true p q r = s.at i (inl (ltb-true i a p))
    go i false p false r = s.at i (inr (ltb-false i (a + n) r))
    go i false p true r =
        let h : a ≤ i = ltb-false i a p in
        let k : i < a + n = ltb-true i (a + n) r in
        let z : i ≡ a + (i - a) = omega arith in
        ap (λ (m : ℕ). get_or w m 0) z ∙ sym (get_or-drop a w (i - a) 0) ∙ sym (get_or-take n (drop a w) (i - a) 0 (omega arith))
        ∙ ap (λ (l : List ℕ). get_or l (i - a) 0) e
        ∙ get_or-take n (drop a v) (i - a) 0 (omega arith) ∙ get_or-drop a v (i - a) 0 ∙ ap (λ (m : ℕ). get_or v m 0) (sym z)

-- two changes inside one pair of bounds
pub outside_again : {a b : ℕ} {u v w : List ℕ} → SameOutside a b u v → SameOutside a b v w → SameOutside a b u w
outside_again p q = record { long = q.long ∙ p.long; at = λ i h. q.at i h ∙ p.at i h }

-- two lists of one length that agree on the places of a part have the same part
pub part_same : (v w : List ℕ) (f e : ℕ) → length w ≡ length v → ((i : ℕ) → f ≤ i → i < e → get_or w i 0 ≡ get_or v i 0)
    → take (e - f) (drop f w) ≡ take (e - f) (drop f v)
part_same v w f e l h =
    ext_get_or 0 (take (e - f) (drop f w)) (take (e - f) (drop f v)) (simp (length-take, length-drop) (omega arith)) go
  where
    go : (i : ℕ) → i < length (take (e - f) (drop f w)) → get_or (take (e - f) (drop f w)) i 0 ≡ get_or (take (e - f) (drop f v)) i 0
    go i k =
        let s : i < e - f = omega (arith, length-take (e - f) (drop f w)) in
        get_or-take (e - f) (drop f w) i 0 s ∙ get_or-drop f w i 0 ∙ h (f + i) (omega arith) (omega arith)
        ∙ sym (get_or-take (e - f) (drop f v) i 0 s ∙ get_or-drop f v i 0)

-- a part that lies outside the bounds is the same
pub outside_between : {a b : ℕ} {v w : List ℕ} (f e : ℕ) → (e ≤ a) ⊎ (b ≤ f) → SameOutside a b v w
    → take (e - f) (drop f w) ≡ take (e - f) (drop f v)
outside_between {a} {b} {v} {w} f e (inl l) p = part_same v w f e p.long (λ i h k. p.at i (inl (omega arith)))
outside_between {a} {b} {v} {w} f e (inr l) p = part_same v w f e p.long (λ i h k. p.at i (inr (omega arith)))
