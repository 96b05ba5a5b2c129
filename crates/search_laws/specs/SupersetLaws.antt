-- How many sets of the first n facts include a set: 2 to the power of how many of those facts the set lacks.
use Rattle.std.specs.Prelude.{◌≡◌, refl, Bool, true, false, cond, ◌&&◌, List, [], ◌∷◌, ◌++◌, map, ℕ, zero, suc, ◌+◌, ◌-◌, ◌*◌, ◌/◌, ◌%◌, ◌^◌, ◌≤◌, ◌<◌, length}
use Rattle.std.proofs.Common.{sym, ap, ap₂, ◌∙◌, zero-add, add-zero, suc-add, mod-lt, mod-eq_of_lt, arith, pow_pos, length-append, eqb-true, eq-eqb}
use Rattle.std.proofs.Math.Pow.{high, low}
use Rattle.std.proofs.lemmas.Nat.{mod-pow-add, and_block}
use Rattle.std.specs.Int.Bits.{bit_and, and_lt}
use Rattle.std.proofs.lemmas.List.{length-map}
use Rattle.move_laws.specs.TestLaws.{and_left, and_right, and_intro, same_test}
use Rattle.move_laws.specs.ImageLaws.{select_image}
use Rattle.move_laws.specs.Lists.{select}
use Rattle.move_laws.specs.FactSets.{digit}
use Rattle.move_laws.specs.Stores.{includes}
use Rattle.move_laws.specs.Moves.{count_up}
use Rattle.move_laws.specs.LabelLaws.{mem_count_up}
use Rattle.search_laws.specs.SizeLaws.{count_most}
use Rattle.ordered_search.specs.OrderedSearch.{fact_count}

-- ---- lists
-- numbers counted up in two parts
pub count_up_append : (j k b : ℕ) → count_up b (j + k) ≡ count_up b j ++ count_up (b + j) k
count_up_append zero k b = ap₂ count_up (sym (add-zero b)) (zero-add k)
count_up_append (suc j) k b =
    ap (count_up b) (suc-add j k)
    ∙ ap (λ (l : List ℕ). b ∷ l) (count_up_append j k (suc b) ∙ ap (λ (x : ℕ). count_up (suc b) j ++ count_up x k) (omega arith))

-- the numbers from b + c on are those from c on with b added
pub count_up_raised : (k b c : ℕ) → count_up (b + c) k ≡ map (λ s. b + s) (count_up c k)
count_up_raised zero b c = refl
count_up_raised (suc k) b c = ap (λ (l : List ℕ). (b + c) ∷ l) (ap (λ (x : ℕ). count_up x k) (omega arith) ∙ count_up_raised k b (suc c))

module _ {A : Type 0} where
  -- what is selected from two lists, one after the other
  pub select_append : (p : A → Bool) (xs ys : List A) → select p (xs ++ ys) ≡ select p xs ++ select p ys
  select_append p [] ys = refl
  select_append p (x ∷ xs) ys = ap (λ (l : List A). cond (p x) (x ∷ l) l) (select_append p xs ys) ∙ go (p x)
    where
      go : (t : Bool) → cond t (x ∷ (select p xs ++ select p ys)) (select p xs ++ select p ys) ≡ cond t (x ∷ select p xs) (select p xs) ++ select p ys
      go true = refl
      go false = refl

  none_selected : (xs : List A) → select (λ x. false) xs ≡ []
  none_selected [] = refl
  none_selected (x ∷ xs) = none_selected xs

-- ---- inclusion
-- one set includes another where its first n facts include the other's and its higher facts the other's
pub includes_block : (n b e s r : ℕ) → s < 2 ^ n → r < 2 ^ n → includes (b * 2 ^ n + s) (e * 2 ^ n + r) ≡ (includes b e && includes s r)
includes_block n b e s r h k =
    same_test (includes (b * 2 ^ n + s) (e * 2 ^ n + r)) (includes b e && includes s r)
    (λ q.
    let whole : bit_and e b * 2 ^ n + bit_and r s ≡ e * 2 ^ n + r = sym both ∙ eqb-true _ _ q in
    and_intro
    (eq-eqb _ _ (sym (high (bit_and e b) n less) ∙ ap (λ (x : ℕ). x / 2 ^ n) whole ∙ high e n k))
    (eq-eqb _ _ (sym (low (bit_and e b) n less) ∙ ap (λ (x : ℕ). x % 2 ^ n) whole ∙ low e n k)))
    (λ q.
    let upper = eqb-true _ _ (and_left (includes b e) (includes s r) q) in
    let lower = eqb-true _ _ (and_right (includes b e) (includes s r) q) in
    eq-eqb _ _ (both ∙ ap₂ (λ (x y : ℕ). x * 2 ^ n + y) upper lower))
  where
    both : bit_and (e * 2 ^ n + r) (b * 2 ^ n + s) ≡ bit_and e b * 2 ^ n + bit_and r s
    both = and_block n e b r s k h

    less : bit_and r s < 2 ^ n
    less = and_lt n r s k h

-- how many sets of the first n facts include a
abbrev supersets : ℕ → ℕ → ℕ
supersets n a = length (select (λ s. includes s a) (count_up 0 (2 ^ n)))

-- how many sets whose higher facts are b include one whose higher facts are e
supersets_block : (n b e r : ℕ) → r < 2 ^ n
    → length (select (λ s. includes s (e * 2 ^ n + r)) (count_up (b * 2 ^ n) (2 ^ n))) ≡ cond (includes b e) (supersets n r) 0
supersets_block n b e r h =
    ap (λ (l : List ℕ). length (select (λ s. includes s (e * 2 ^ n + r)) l))
    (ap (λ (x : ℕ). count_up x (2 ^ n)) (omega arith) ∙ count_up_raised (2 ^ n) (b * 2 ^ n) 0)
    ∙ ap length (select_image (λ s. b * 2 ^ n + s) (λ s. includes s (e * 2 ^ n + r)) (λ s. includes b e && includes s r) (count_up 0 (2 ^ n))
    (λ s m. includes_block n b e s r (omega (arith, mem_count_up (2 ^ n) 0 m)) h))
    ∙ length-map (select (λ s. includes b e && includes s r) (count_up 0 (2 ^ n))) (λ s. b * 2 ^ n + s) ∙ go (includes b e)
  where
    go : (t : Bool) → length (select (λ s. t && includes s r) (count_up 0 (2 ^ n))) ≡ cond t (supersets n r) 0
    go true = refl
    go false = ap length (none_selected (count_up 0 (2 ^ n)))

-- the sets of one more fact n: those without it and those with it
supersets_next : (n e r : ℕ) → r < 2 ^ n → supersets (suc n) (e * 2 ^ n + r) ≡ cond (includes 0 e) (supersets n r) 0 + cond (includes 1 e) (supersets n r) 0
supersets_next n e r h =
    ap (λ (l : List ℕ). length (select p l)) (ap (count_up 0) two ∙ count_up_append (2 ^ n) (2 ^ n) 0)
    ∙ ap length (select_append p (count_up 0 (2 ^ n)) (count_up (0 + 2 ^ n) (2 ^ n)))
    ∙ length-append (select p (count_up 0 (2 ^ n))) (select p (count_up (0 + 2 ^ n) (2 ^ n)))
    ∙ ap₂ ◌+◌
    (ap (λ (x : ℕ). length (select p (count_up x (2 ^ n)))) (omega arith) ∙ supersets_block n 0 e r h)
    (ap (λ (x : ℕ). length (select p (count_up x (2 ^ n)))) (omega arith) ∙ supersets_block n 1 e r h)
  where
    p : ℕ → Bool
    p s = includes s (e * 2 ^ n + r)

    two : 2 ^ suc n ≡ 2 ^ n + 2 ^ n
    two = omega arith

-- the sets that include what a has of the first n facts
supersets_low : (n a : ℕ) → supersets n (a % 2 ^ n) ≡ 2 ^ (n - fact_count n a)
unfolding fact_count digit
supersets_low zero a = let none : a % 1 ≡ 0 = omega arith in ap (supersets 0) none
supersets_low (suc n) a =
    ap (supersets (suc n)) top ∙ supersets_next n (digit a n) (a % 2 ^ n) (mod-lt a (pow_pos n)) ∙ go (supersets_low n a) (digit a n) small
  where
    top : a % 2 ^ suc n ≡ digit a n * 2 ^ n + a % 2 ^ n
    top = ap (λ (k : ℕ). a % 2 ^ k) (omega arith) ∙ mod-pow-add a 1 n

    small : digit a n < 2
    small = omega arith

    go : supersets n (a % 2 ^ n) ≡ 2 ^ (n - fact_count n a) → (e : ℕ) → e < 2
        → cond (includes 0 e) (supersets n (a % 2 ^ n)) 0 + cond (includes 1 e) (supersets n (a % 2 ^ n)) 0 ≡ 2 ^ (suc n - (e + fact_count n a))
    go ih zero l =
        let more : suc n - (0 + fact_count n a) ≡ suc (n - fact_count n a) = omega (arith, count_most n a) in
        omega (arith, ap (λ (k : ℕ). 2 ^ k) more)
    go ih (suc zero) l =
        let same : suc n - (1 + fact_count n a) ≡ n - fact_count n a = omega arith in
        omega (arith, ap (λ (k : ℕ). 2 ^ k) same)
    go ih (suc (suc e)) l = absurd (omega arith)

-- the supersets of a among the sets of n facts: each of the facts that a lacks is in or out
pub supersets_count : (n a : ℕ) → a < 2 ^ n → length (select (λ s. includes s a) (count_up 0 (2 ^ n))) ≡ 2 ^ (n - fact_count n a)
supersets_count n a h = ap (supersets n) (sym (mod-eq_of_lt h)) ∙ supersets_low n a
