-- The sets of a word one after the other, and the marked sets word by word.
use Rattle.std.specs.Prelude.{◌≡◌, refl, Bool, true, false, cond, ◌&&◌, List, [], ◌∷◌, ◌++◌, ℕ, zero, suc, ◌+◌, ◌-◌, ◌*◌, ◌/◌, ◌%◌, ◌≤◌, ◌<◌, length, get_or}
use Rattle.std.proofs.Math.Path.{sym, ap₂}
use Rattle.std.proofs.Common.{ap, ◌∙◌, subst, append-nil, length-append, eqb-true, eq-eqb, ne_eqb}
use native.Mathlib.Omega.{arith}
use Rattle.std.proofs.Math.Dec.{eqb}
use Rattle.std.proofs.lemmas.Bool.{eqb-false}
use Rattle.place_sets.specs.Lists.{select}
use Rattle.set_digits.specs.FactSets.{digit}
use Rattle.set_digits.specs.FactSetLaws.{zero_digit}
use Rattle.place_sets.specs.DigitLaws.{Lowest}
use Rattle.set_digits.specs.Moves.{count_up}
use Rattle.set_digits.specs.OrderedSearch.{fact_count}
use Rattle.set_digits.specs.SupersetLaws.{count_up_append, select_append}
use Rattle.set_digits.specs.SetDigits.{mark}
use Rattle.digit_lists.specs.DigitLists.{SizeInWord, word_sets, marked_of_size}
use Rattle.digit_lists.specs.SizesInWord.{size_empty}

-- ---- what is selected from k numbers from b on
-- two tests that agree on them
selected_same : (p q : ℕ → Bool) (k b : ℕ) → ((s : ℕ) → b ≤ s → s < b + k → p s ≡ q s) → select p (count_up b k) ≡ select q (count_up b k)
selected_same p q zero b h = refl
selected_same p q (suc k) b h =
    ap₂ (λ (t : Bool) (l : List ℕ). cond t (b ∷ l) l) (h b (omega arith) (omega arith))
    (selected_same p q k (suc b) (λ s l m. h s (omega arith) (omega arith)))

-- no number passes
selected_none : (p : ℕ → Bool) (k b : ℕ) → ((s : ℕ) → p s ≡ false) → select p (count_up b k) ≡ []
selected_none p zero b h = refl
selected_none p (suc k) b h = rw (h b) (selected_none p k (suc b) h)

-- r is the first that passes, and a second test passes for the same numbers but r
selected_first : (p q : ℕ → Bool) (r : ℕ) → p r ≡ true → q r ≡ false → (k b : ℕ) → b ≤ r → r < b + k
    → ((s : ℕ) → b ≤ s → s < r → p s ≡ false) → ((s : ℕ) → b ≤ s → s < b + k → (s ≡ r → ⊥) → q s ≡ p s)
    → select p (count_up b k) ≡ r ∷ select q (count_up b k)
selected_first p q r one gone zero b low high none same = absurd (omega arith)
selected_first p q r one gone (suc k) b low high none same = go (selected_first p q r one gone k (suc b)) (eqb b r) refl
  where
    go : (suc b ≤ r → r < suc b + k → ((s : ℕ) → suc b ≤ s → s < r → p s ≡ false)
        → ((s : ℕ) → suc b ≤ s → s < suc b + k → (s ≡ r → ⊥) → q s ≡ p s) → select p (count_up (suc b) k) ≡ r ∷ select q (count_up (suc b) k))
        → (t : Bool) → eqb b r ≡ t
        → cond (p b) (b ∷ select p (count_up (suc b) k)) (select p (count_up (suc b) k))
        ≡ r ∷ cond (q b) (b ∷ select q (count_up (suc b) k)) (select q (count_up (suc b) k))
    go ih true t =
        let e : b ≡ r = eqb-true b r t in
        rw (ap p e ∙ one, ap q e ∙ gone)
        (ap₂ (λ (a : ℕ) (l : List ℕ). a ∷ l) e
        (selected_same p q k (suc b) (λ s l m. sym (same s (omega arith) (omega arith) (λ z. omega arith)))))
    go ih false t =
        let other : b ≡ r → ⊥ = eqb-false b r t in
        let no : p b ≡ false = none b (omega arith) (omega arith) in
        rw (no, same b (omega arith) (omega arith) other ∙ no)
        (ih (omega arith) (omega arith) (λ s l m. none s (omega arith) m) (λ s l m z. same s (omega arith) (omega arith) z))

-- more numbers behind those below a
selected_next : (p q : ℕ → Bool) (a k c : ℕ) → c ≡ a + k → ((s : ℕ) → a ≤ s → s < a + k → p s ≡ q s)
    → select p (count_up 0 c) ≡ select p (count_up 0 a) ++ select q (count_up a k)
selected_next p q a k c e h =
    let z : 0 + a ≡ a = omega arith in
    ap (λ (n : ℕ). select p (count_up 0 n)) e
    ∙ ap (select p) (count_up_append a k 0)
    ∙ select_append p (count_up 0 a) (count_up (0 + a) k)
    ∙ ap (λ (l : List ℕ). select p (count_up 0 a) ++ l) (ap (λ (b : ℕ). select p (count_up b k)) z ∙ selected_same p q k a h)

-- which are no fewer
selected_more : (p : ℕ → Bool) (a c : ℕ) → a ≤ c → length (select p (count_up 0 a)) ≤ length (select p (count_up 0 c))
selected_more p a c h =
    omega (
      arith,
      ap length (selected_next p p a (c - a) c (omega arith) (λ s l m. refl)),
      length-append (select p (count_up 0 a)) (select p (count_up a (c - a))),
    )

-- ---- the sets of a word
-- a word with no digit has none
pub word_empty : (i : ℕ) → word_sets i 0 ≡ []
unfolding word_sets
word_empty i = selected_none (λ s. eqb (digit 0 (s % 32)) 1) 32 (32 * i) (λ s. ap (λ (d : ℕ). eqb d 1) (zero_digit (s % 32)))

-- the set of the lowest digit comes first
pub word_first : (i x t y : ℕ) → t < 32 → Lowest x t y → word_sets i x ≡ (32 * i + t) ∷ word_sets i y
unfolding word_sets
word_first i x t y h o =
    selected_first (λ s. eqb (digit x (s % 32)) 1) (λ s. eqb (digit y (s % 32)) 1) (32 * i + t)
    (ap (λ (p : ℕ). eqb (digit x p) 1) place ∙ eq-eqb _ _ o.one)
    (ap (λ (p : ℕ). eqb (digit y p) 1) place ∙ ne_eqb _ _ (λ (e : digit y t ≡ 1). omega (arith, o.gone)))
    32 (32 * i) (omega arith) (omega arith)
    (λ s l m. ne_eqb _ _ (λ (e : digit x (s % 32) ≡ 1). omega (arith, o.none (s % 32) (omega arith))))
    (λ s l m z. ap (λ (d : ℕ). eqb d 1) (o.same (s % 32) (λ e. z (omega arith))))
  where
    place : (32 * i + t) % 32 ≡ t
    place = omega arith

-- ---- the marked sets
module _ (w : List ℕ) (left k : ℕ) where
  -- the sets of one more word
  pub marked_next : (i y : ℕ) → SizeInWord (get_or w (left + i) 0) i k y → marked_of_size w left (i + 1) k ≡ marked_of_size w left i k ++ word_sets i y
  unfolding word_sets
  marked_next i y d =
      selected_next (λ s. eqb (fact_count 16 s) k && eqb (mark w left s) 1) (λ s. eqb (digit y (s % 32)) 1) (32 * i) 32 (32 * (i + 1)) (omega arith)
      (λ s l m.
      let word : s / 32 ≡ i = omega arith in
      let whole : s ≡ 32 * i + s % 32 = omega arith in
      ap₂ (λ (z j : ℕ). eqb (fact_count 16 z) k && eqb (digit (get_or w (left + j) 0) (s % 32)) 1) whole word
      ∙ sym (d.digits (s % 32) (omega arith)))

  -- an empty word has none
  pub marked_same : (i : ℕ) → get_or w (left + i) 0 ≡ 0 → marked_of_size w left (i + 1) k ≡ marked_of_size w left i k
  marked_same i e =
      marked_next i 0 (subst (λ (x : ℕ). SizeInWord x i k 0) (sym e) (size_empty i k))
      ∙ ap (λ (l : List ℕ). marked_of_size w left i k ++ l) (word_empty i)
      ∙ append-nil (marked_of_size w left i k)

  -- they are among those of more words
  pub marked_room : (i y words : ℕ) → SizeInWord (get_or w (left + i) 0) i k y → i < words
      → length (marked_of_size w left i k) + length (word_sets i y) ≤ length (marked_of_size w left words k)
  marked_room i y words d h =
      omega (
        arith,
        length-append (marked_of_size w left i k) (word_sets i y),
        ap length (marked_next i y d),
        selected_more (λ s. eqb (fact_count 16 s) k && eqb (mark w left s) 1) (32 * (i + 1)) (32 * words) (omega arith),
      )
