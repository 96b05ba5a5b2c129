-- Numbers moved down by one place, so that one of them is taken out.
use Rattle.std.specs.Prelude.{◌≡◌, refl, Bool, true, false, List, [], ◌∷◌, ℕ, zero, suc, ◌+◌, ◌-◌, ◌≤◌, ◌<◌, length, get_or, set, take, eqb, ltb}
use Rattle.std.proofs.Common.{sym, ap, ◌∙◌, arith, add-one, length-set, length-take, get_or-set_same, get_or-set_other, get_or-take, ext_get_or, eqb-true, ltb-true, ltb-false}
use Rattle.std.proofs.lemmas.Bool.{eqb-false}
use Rattle.node_moves.specs.ThreadLaws.{rest_without, rest_without_length}

-- the numbers of v, those at the places from i on, and below j, taken from the next place
pub record Shifted (v : List ℕ) (i j : ℕ) (w : List ℕ) : Type 0 where
  pub long : length w ≡ length v
  pub low : (k : ℕ) → k < i → get_or w k 0 ≡ get_or v k 0
  pub moved : (k : ℕ) → i ≤ k → k < j → get_or w k 0 ≡ get_or v (k + 1) 0
  pub rest : (k : ℕ) → j ≤ k → get_or w k 0 ≡ get_or v k 0

pub shifted_none : (v : List ℕ) (i j : ℕ) → j ≤ i → Shifted v i j v
shifted_none v i j h = record { long = refl; low = λ k l. refl; moved = λ k l m. absurd (omega arith); rest = λ k l. refl }

-- one place more, where x is put
pub shifted_next : (v : List ℕ) (i j : ℕ) (w : List ℕ) (x : ℕ) → j < length v
    → (j < i → x ≡ get_or w j 0) → (i ≤ j → x ≡ get_or w (j + 1) 0) → Shifted v i j w → Shifted v i (j + 1) (set w j x)
shifted_next v i j w x l keeps takes s =
    record {
      long = length-set w j x ∙ s.long;
      low = λ k m. kept k m (eqb k j) refl;
      moved = λ k m n. next k m n (eqb k j) refl;
      rest = λ k m. get_or-set_other w j k x 0 (omega arith) ∙ s.rest k (omega arith);
    }
  where
    kept : (k : ℕ) → k < i → (b : Bool) → eqb k j ≡ b → get_or (set w j x) k 0 ≡ get_or v k 0
    kept k m true e =
        let r : k ≡ j = eqb-true k j e in
        rw r (get_or-set_same w j x 0 (omega (arith, s.long)) ∙ keeps (omega arith) ∙ s.rest j (omega arith))
    kept k m false e =
        let r = eqb-false k j e in
        get_or-set_other w j k x 0 r ∙ s.low k m

    next : (k : ℕ) → i ≤ k → k < j + 1 → (b : Bool) → eqb k j ≡ b → get_or (set w j x) k 0 ≡ get_or v (k + 1) 0
    next k m n true e =
        let r : k ≡ j = eqb-true k j e in
        rw r (get_or-set_same w j x 0 (omega (arith, s.long)) ∙ takes (omega arith) ∙ s.rest (j + 1) (omega arith))
    next k m n false e =
        let r = eqb-false k j e in
        get_or-set_other w j k x 0 r ∙ s.moved k m (omega arith)

-- ---- a list without the element at one place, place by place
rest_without_low : (ts : List ℕ) (i k : ℕ) → k < i → get_or (rest_without ts i) k 0 ≡ get_or ts k 0
rest_without_low [] i k h = refl
rest_without_low (t ∷ ts) zero k h = absurd (omega arith)
rest_without_low (t ∷ ts) (suc i) zero h = refl
rest_without_low (t ∷ ts) (suc i) (suc k) h = rest_without_low ts i k (omega arith)

rest_without_high : (ts : List ℕ) (i k : ℕ) → i ≤ k → get_or (rest_without ts i) k 0 ≡ get_or ts (suc k) 0
rest_without_high [] i k h = refl
rest_without_high (t ∷ ts) zero k h = refl
rest_without_high (t ∷ ts) (suc i) zero h = absurd (omega arith)
rest_without_high (t ∷ ts) (suc i) (suc k) h = rest_without_high ts i k (omega arith)

-- once the last of n numbers is moved, the first n - 1 are the n without that at place i
pub shifted_all : (v : List ℕ) (i j n : ℕ) (w : List ℕ) → i < n → n ≤ j + 1 → n ≤ length v → Shifted v i j w
    → take (n - 1) w ≡ rest_without (take n v) i
shifted_all v i j n w h e l s =
    ext_get_or 0 (take (n - 1) w) (rest_without (take n v) i) lengths (λ k m. at k (omega (arith, long)) (ltb k i) refl)
  where
    long : length (take (n - 1) w) ≡ n - 1
    long = simp length-take (omega (arith, s.long))

    lengths : length (take (n - 1) w) ≡ length (rest_without (take n v) i)
    lengths =
        let k : length (take n v) ≡ n = simp length-take (omega arith) in
        omega (arith, long, rest_without_length (take n v) i (omega arith))

    at : (k : ℕ) → k < n - 1 → (b : Bool) → ltb k i ≡ b → get_or (take (n - 1) w) k 0 ≡ get_or (rest_without (take n v) i) k 0
    at k m true t =
        let u : k < i = ltb-true k i t in
        get_or-take (n - 1) w k 0 m ∙ s.low k u ∙ sym (rest_without_low (take n v) i k u ∙ get_or-take n v k 0 (omega arith))
    at k m false t =
        let u : i ≤ k = ltb-false k i t in
        get_or-take (n - 1) w k 0 m ∙ s.moved k u (omega arith) ∙ ap (λ (x : ℕ). get_or v x 0) (add-one k)
        ∙ sym (rest_without_high (take n v) i k u ∙ get_or-take n v (suc k) 0 (omega arith))
