-- Laws of labels: each is a constraint that makes the asked set true, below each such constraint there is one, and no such
-- constraint is strictly below one. Where the store entails the asked set there is one label; there are never more than half of the sets, and one.
use Rattle.std.specs.Prelude.{◌≡◌, ◌⊎◌, true, false, cond, not, ◌&&◌, length, eqb, leb}
use Rattle.std.proofs.Math.Path.{refl}
use Rattle.std.proofs.Common.{sym, ap, ◌∙◌, subst, inl, inr, ⊎_elim, arith, pow_pos, eqb-true, eq-eqb, lt-ltb, leb-true, leb-false}
use Rattle.std.proofs.Math.Bool.{Bool}
use mathlib.Core.List.Memᴰ
use mathlib.Core.List.{List, [], ◌∷◌, map, Memᴰ}
use Prim.Native.Nat.{ℕ, zero, suc, ◌+◌, ◌/◌, ◌%◌, ◌^◌, ◌≤◌, ◌<◌}
use Rattle.std.specs.Int.Bits.{bit_and, and_step, and_self}
use Rattle.std.proofs.lemmas.Nat.{and_comm}
use Rattle.std.proofs.lemmas.Bool.{eqb-false, not-true}
use Rattle.sheet_laws.specs.TestLaws.{true_false, and_left, and_right, and_intro, not_passes}
use Rattle.moves.specs.Lists.{select, any, Ascends, none_left, then_rest, Distinct, no_elements, one_more}
use Rattle.sheet_laws.specs.Members.{mem_select, select_mem, any_yes, any_no, mem_map}
use Rattle.sheet_laws.specs.AscendingLaws.{number_order, select_ascends}
use Rattle.sheet_laws.specs.Counting.{distinct_length, distinct_map_on}
use Rattle.moves.specs.FactSets.{Within}
use Rattle.sheet_laws.specs.FactSetLaws.{and_within, within_refl, within_trans, within_le}
use Rattle.sheet_laws.specs.Stores.{Constraint, conclusions, join, strictly_below, least_store}
use Rattle.sheet_laws.specs.StoreLaws.{includes_within, within_includes, below_within, within_below, closure_same, closed_by_closure, closure_constraint, join_left, least_within, below_least}
use Rattle.moves.specs.Sheet.{Sheet}
use Rattle.moves.specs.Moves.{count_up, is_closed, constraints, is_minimal, makes_true, labels}

-- ---- numbers counted up
pub count_up_mem : (k b a : ℕ) → b ≤ a → a < b + k → Memᴰ a (count_up b k)
count_up_mem zero b a h l = absurd (omega arith)
count_up_mem (suc k) b a h l = go (count_up_mem k (suc b) a) (eqb a b) refl
  where
    go : (suc b ≤ a → a < suc b + k → Memᴰ a (count_up (suc b) k)) → (t : Bool) → eqb a b ≡ t → Memᴰ a (b ∷ count_up (suc b) k)
    go ih true e = Memᴰ.head (eqb-true a b e)
    go ih false e = Memᴰ.tail (ih (omega (arith, eqb-false a b e)) (omega arith))

pub mem_count_up : (k b : ℕ) {a : ℕ} → Memᴰ a (count_up b k) → a < b + k
mem_count_up zero b m = absurd (Memᴰ.not-nil m)
mem_count_up (suc k) b {a} m =
    ⊎_elim (λ (q : a ≡ b). omega arith) (λ (r : Memᴰ a (count_up (suc b) k)). omega (arith, mem_count_up k (suc b) r)) (Memᴰ.cases_cons m)

pub mem_count_up_from : (k b : ℕ) {a : ℕ} → Memᴰ a (count_up b k) → b ≤ a
mem_count_up_from zero b m = absurd (Memᴰ.not-nil m)
mem_count_up_from (suc k) b {a} m =
    ⊎_elim (λ (q : a ≡ b). omega arith)
    (λ (r : Memᴰ a (count_up (suc b) k)). omega (arith, mem_count_up_from k (suc b) r)) (Memᴰ.cases_cons m)

pub count_up_length : (k b : ℕ) → length (count_up b k) ≡ k
count_up_length zero b = refl
count_up_length (suc k) b = ap suc (count_up_length k (suc b))

pub count_up_distinct : (k b : ℕ) → Distinct (count_up b k)
count_up_distinct zero b = no_elements
count_up_distinct (suc k) b =
    one_more (λ (m : Memᴰ b (count_up (suc b) k)). omega (arith, mem_count_up_from k (suc b) m)) (count_up_distinct k (suc b))

count_up_ascends : (k b : ℕ) → Ascends number_order.before (count_up b k)
count_up_ascends zero b = none_left
count_up_ascends (suc k) b =
    then_rest (λ (y : ℕ) (m : Memᴰ y (count_up (suc b) k)). lt-ltb b y (omega (arith, mem_count_up_from k (suc b) m))) (count_up_ascends k (suc b))

-- ---- lists without repeats
-- what is selected from one is one
pub distinct_select : {A : Type 0} (p : A → Bool) (xs : List A) → Distinct xs → Distinct (select p xs)
distinct_select p [] d = no_elements
distinct_select p (x ∷ xs) (one_more n d) = go (distinct_select p xs d) (p x)
  where
    go : Distinct (select p xs) → (b : Bool) → Distinct (cond b (x ∷ select p xs) (select p xs))
    go rest true = one_more (λ m. n (mem_select p xs m).0) rest
    go rest false = rest

-- one whose elements are all a, and which has a
pub distinct_one : {A : Type 0} (a : A) (xs : List A) → Distinct xs → Memᴰ a xs → ((b : A) → Memᴰ b xs → b ≡ a) → xs ≡ a ∷ []
distinct_one a [] d m f = absurd (Memᴰ.not-nil m)
distinct_one {A} a (x ∷ []) d m f = ap (λ (y : A). y ∷ []) (f x (Memᴰ.head refl))
distinct_one {A} a (x ∷ y ∷ ys) (one_more n d) m f =
    absurd (n (Memᴰ.head (f x (Memᴰ.head refl) ∙ sym (f y (Memᴰ.tail (Memᴰ.head refl))))))

map_length : {A B : Type 0} (f : A → B) (xs : List A) → length (map f xs) ≡ length xs
map_length f [] = refl
map_length f (x ∷ xs) = ap suc (map_length f xs)

-- distinct numbers below n, no two of which have the same half: at most n / 2 and one
pub few_by_halves : (n : ℕ) (xs : List ℕ) → Distinct xs → ((a b : ℕ) → Memᴰ a xs → Memᴰ b xs → a / 2 ≡ b / 2 → a ≡ b)
    → ((a : ℕ) → Memᴰ a xs → a < n) → length xs ≤ n / 2 + 1
few_by_halves n xs d inj low =
    omega (
      arith,
      map_length half xs,
      count_up_length (n / 2 + 1) 0,
      distinct_length (map half xs) (count_up 0 (n / 2 + 1)) (distinct_map_on half xs d inj)
          (λ h m. let y = mem_map half xs m in count_up_mem (n / 2 + 1) 0 h (omega arith) (omega (arith, y.2, low y.0 y.1))),
    )
  where
    half : ℕ → ℕ
    half a = a / 2

-- two sets that differ in the first fact at most: one is inside the other
pub half_within : (a b : ℕ) → a / 2 ≡ b / 2 → Within a b ⊎ Within b a
half_within a b e = go (leb (a % 2) (b % 2)) refl
  where
    same : bit_and (a / 2) (b / 2) ≡ a / 2
    same = ap (λ (x : ℕ). bit_and (a / 2) x) (sym e) ∙ and_self (a / 2)

    go : (t : Bool) → leb (a % 2) (b % 2) ≡ t → Within a b ⊎ Within b a
    go true t = inl (and_within a b (omega (arith, and_step a b, same, leb-true (a % 2) (b % 2) t)))
    go false t = inr (and_within b a (omega (arith, and_comm b a, and_step a b, same, leb-false (a % 2) (b % 2) t)))

-- ---- the labels
module _ (sheet : Sheet) where
  -- the list has exactly the constraints of the sheet
  pub constraints_all : (a : ℕ) → Constraint sheet.facts sheet.rules a → Memᴰ a (constraints sheet)
  constraints_all a c =
      select_mem (is_closed sheet) (count_up 0 (2 ^ sheet.facts)) (count_up_mem (2 ^ sheet.facts) 0 a (omega arith) (omega (arith, c.facts)))
      (eq-eqb _ _ (closure_same sheet.rules a c.closed))

  pub constraints_only : {a : ℕ} → Memᴰ a (constraints sheet) → Constraint sheet.facts sheet.rules a
  constraints_only {a} m =
      let s = mem_select (is_closed sheet) (count_up 0 (2 ^ sheet.facts)) m in
      record { closed = closed_by_closure sheet.rules a (eqb-true _ _ s.1); facts = omega (arith, mem_count_up (2 ^ sheet.facts) 0 s.0) }

  -- below each candidate that passes there is a minimal one
  minimal_below : (p : ℕ → Bool) (xs : List ℕ) (k e : ℕ) → e < k → Memᴰ e xs → p e ≡ true
      → (a : ℕ) × Memᴰ a (select (is_minimal p xs) xs) × Within a e
  minimal_below p xs zero e h m q = absurd (omega arith)
  minimal_below p xs (suc k) e h m q = go (minimal_below p xs k) (any (λ b. p b && strictly_below b e) xs) refl
    where
      go : ((b : ℕ) → b < k → Memᴰ b xs → p b ≡ true
          → (a : ℕ) × Memᴰ a (select (is_minimal p xs) xs) × Within a b)
          → (t : Bool) → any (λ b. p b && strictly_below b e) xs ≡ t
          → (a : ℕ) × Memᴰ a (select (is_minimal p xs) xs) × Within a e
      go ih true t =
          let y = any_yes (λ b. p b && strictly_below b e) xs t in
          let l = below_within y.0 e (and_right (p y.0) (strictly_below y.0 e) y.2) in
          let i = ih y.0 (omega (arith, within_le l.0, l.1)) y.1 (and_left (p y.0) (strictly_below y.0 e) y.2) in
          (i.0, i.1, within_trans i.2 l.0)
      go ih false t = (e, select_mem (is_minimal p xs) xs m (and_intro q (not_passes t)), within_refl e)

  module _ (d c : ℕ) where
    pub label_constraint : {a : ℕ} → Memᴰ a (labels sheet d c) → Constraint sheet.facts sheet.rules a
    unfolding labels
    label_constraint m =
        constraints_only (mem_select (is_minimal (makes_true sheet d c) (constraints sheet)) (constraints sheet) m).0

    pub label_makes_true : {a : ℕ} → Memᴰ a (labels sheet d c) → Within c (join sheet.rules d a)
    unfolding labels
    label_makes_true {a} m =
        includes_within (join sheet.rules d a) c
        (and_left (makes_true sheet d c a) (not (any (λ b. makes_true sheet d c b && strictly_below b a) (constraints sheet)))
        (mem_select (is_minimal (makes_true sheet d c) (constraints sheet)) (constraints sheet) m).1)

    -- below each constraint that makes c true there is a label
    pub label_below : (e : ℕ) → Constraint sheet.facts sheet.rules e → Within c (join sheet.rules d e)
        → (a : ℕ) × Memᴰ a (labels sheet d c) × Within a e
    unfolding labels
    label_below e k h = minimal_below (makes_true sheet d c) (constraints sheet) (suc e) e (omega arith) (constraints_all e k) (within_includes h)

    -- no constraint that makes c true is strictly below a label
    pub label_minimal : {a : ℕ} → Memᴰ a (labels sheet d c) → (e : ℕ) → Constraint sheet.facts sheet.rules e
        → Within c (join sheet.rules d e) → Within e a → e ≡ a
    unfolding labels
    label_minimal {a} m e k h w = go (eqb e a) refl
      where
        below : ℕ → Bool
        below b = makes_true sheet d c b && strictly_below b a

        none : any below (constraints sheet) ≡ false
        none =
            not-true (any below (constraints sheet))
            (and_right (makes_true sheet d c a) (not (any below (constraints sheet)))
            (mem_select (is_minimal (makes_true sheet d c) (constraints sheet)) (constraints sheet) m).1)

        go : (t : Bool) → eqb e a ≡ t → e ≡ a
        go true t = eqb-true e a t
        go false t =
            true_false (below e) (and_intro (within_includes h) (within_below w (eqb-false e a t)))
            (any_no below (constraints sheet) none (constraints_all e k))

    pub labels_distinct : Distinct (labels sheet d c)
    unfolding labels
    labels_distinct =
        distinct_select (is_minimal (makes_true sheet d c) (constraints sheet)) (constraints sheet)
        (distinct_select (is_closed sheet) (count_up 0 (2 ^ sheet.facts)) (count_up_distinct (2 ^ sheet.facts) 0))

    pub labels_ascend : Ascends number_order.before (labels sheet d c)
    unfolding labels
    labels_ascend =
        select_ascends number_order (is_minimal (makes_true sheet d c) (constraints sheet)) (constraints sheet)
        (select_ascends number_order (is_closed sheet) (count_up 0 (2 ^ sheet.facts)) (count_up_ascends (2 ^ sheet.facts) 0))

    -- two labels that differ in the first fact at most are equal
    label_by_half : (a b : ℕ) → Memᴰ a (labels sheet d c) → Memᴰ b (labels sheet d c) → a / 2 ≡ b / 2 → a ≡ b
    label_by_half a b m n e =
        ⊎_elim (λ (w : Within a b). label_minimal n a (label_constraint m) (label_makes_true m) w)
        (λ (w : Within b a). sym (label_minimal m b (label_constraint n) (label_makes_true n) w)) (half_within a b e)

    -- at most half of the sets are labels, and one
    pub labels_few : length (labels sheet d c) ≤ 2 ^ sheet.facts / 2 + 1
    labels_few = few_by_halves (2 ^ sheet.facts) (labels sheet d c) labels_distinct label_by_half (λ a m. (label_constraint m).facts)

  -- the conclusions hold facts of the sheet only
  module _ (fit : conclusions sheet.rules < 2 ^ sheet.facts) where
    pub least_constraint : Constraint sheet.facts sheet.rules (least_store sheet.rules)
    least_constraint = closure_constraint sheet.rules sheet.facts 0 (pow_pos sheet.facts) fit

    -- where d entails c already, the least store is a label
    pub label_least : (d c : ℕ) → Within c d → Memᴰ (least_store sheet.rules) (labels sheet d c)
    label_least d c h =
        let x = label_below d c (least_store sheet.rules) least_constraint (within_trans h (join_left sheet.rules d (least_store sheet.rules))) in
        subst (λ (a : ℕ). Memᴰ a (labels sheet d c)) (below_least sheet.rules x.0 (label_constraint d c x.1).closed x.2) x.1

    -- and the only one
    pub labels_within : (d c : ℕ) → Within c d → labels sheet d c ≡ least_store sheet.rules ∷ []
    labels_within d c h =
        distinct_one (least_store sheet.rules) (labels sheet d c) (labels_distinct d c) (label_least d c h)
        (λ b m. sym (label_minimal d c m (least_store sheet.rules) least_constraint
        (label_makes_true d c (label_least d c h)) (least_within sheet.rules b (label_constraint d c m).closed)))
