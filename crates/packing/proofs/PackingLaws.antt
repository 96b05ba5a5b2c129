-- Comparing the three numbers of two configurations is the order of configurations.
use Rattle.std.specs.Prelude.{◌≡◌, refl, Bool, true, false, cond, ℕ, zero, suc, ◌+◌, ◌*◌, ◌/◌, ◌%◌, ◌≤◌, ◌<◌, length, get_or, take, drop, eqb, ltb}
use Rattle.std.proofs.Common.{sym, ap, ap₂, ◌∙◌, subst, arith, drop_of_length-le, length-drop, length-take, get_or-drop, eqb-true, eq-eqb, ne_eqb, ltb-true, ltb-false, lt-ltb, le-ltb}
use mathlib.Core.List.Memᴰ
use mathlib.Core.List.{List, [], ◌∷◌, Memᴰ}
use Rattle.std.proofs.lemmas.Bool.{eqb-false}
use Rattle.list_laws.specs.TestLaws.{true_false}
use Rattle.moves.specs.Sheet.{Configuration}
use Rattle.moves.specs.Orders.{leftmost, configuration_before}
use Rattle.std.specs.Ordering.{is_lt}
use Rattle.std.specs.declared.cmp.Ordering.{Ordering}
use Rattle.std.specs.declared.cmp.Ordering.TheVariants.{Less, Equal, Greater}
use Rattle.packing.specs.declared.Numbers.{Numbers}
use Rattle.packing.specs.Packing.{bytes_after, number0, number1, number2, Fits, numbers_before, unpacked, Packed, eight_bytes, side_of, stands_for, PackedIn, before}
use Rattle.packing.specs.Comparing.{compared}

abbrev Bytes : List ℕ → Type 0
Bytes ts = (t : ℕ) → Memᴰ t ts → t < 256

no_bytes : Bytes []
no_bytes t m = absurd (Memᴰ.not-nil m)

-- what stands before decides
after_less : (k a b : ℕ) (xs ys : List ℕ) → Bytes xs → Bytes ys → a < b → bytes_after a k xs < bytes_after b k ys
after_less zero a b xs ys p q h = h
after_less (suc k) a b [] [] p q h = after_less k (a * 256) (b * 256) [] [] p q (omega arith)
after_less (suc k) a b [] (y ∷ ys) p q h = after_less k (a * 256) (b * 256 + y) [] ys p (λ t m. q t (Memᴰ.tail m)) (omega arith)
after_less (suc k) a b (x ∷ xs) [] p q h =
    after_less k (a * 256 + x) (b * 256) xs [] (λ t m. p t (Memᴰ.tail m)) q (omega (arith, p x (Memᴰ.head refl)))
after_less (suc k) a b (x ∷ xs) (y ∷ ys) p q h =
    after_less k (a * 256 + x) (b * 256 + y) xs ys (λ t m. p t (Memᴰ.tail m)) (λ t m. q t (Memᴰ.tail m))
    (omega (arith, p x (Memᴰ.head refl)))

-- lists of one length: the first k from the left as a number, then the rest
after_leftmost : (k a : ℕ) (xs ys : List ℕ) → Bytes xs → Bytes ys → length xs ≡ length ys
    → leftmost xs ys ≡ cond (eqb (bytes_after a k xs) (bytes_after a k ys)) (leftmost (drop k xs) (drop k ys)) (ltb (bytes_after a k xs) (bytes_after a k ys))
after_leftmost zero a xs ys p q l = rw (eq-eqb a a refl)
after_leftmost (suc k) a [] [] p q l = rw (eq-eqb (bytes_after (a * 256) k []) (bytes_after (a * 256) k []) refl)
after_leftmost (suc k) a [] (y ∷ ys) p q l = absurd (omega arith)
after_leftmost (suc k) a (x ∷ xs) [] p q l = absurd (omega arith)
after_leftmost (suc k) a (x ∷ xs) (y ∷ ys) p q l =
    go (after_leftmost k (a * 256 + x) xs ys (λ t m. p t (Memᴰ.tail m)) (λ t m. q t (Memᴰ.tail m)) (omega arith))
    (eqb x y) refl (ltb x y) refl
  where
    p' : Bytes xs
    p' t m = p t (Memᴰ.tail m)

    q' : Bytes ys
    q' t m = q t (Memᴰ.tail m)

    go : (leftmost xs ys
        ≡ cond (eqb (bytes_after (a * 256 + x) k xs) (bytes_after (a * 256 + x) k ys))
        (leftmost (drop k xs) (drop k ys)) (ltb (bytes_after (a * 256 + x) k xs) (bytes_after (a * 256 + x) k ys)))
        → (s : Bool) → eqb x y ≡ s → (t : Bool) → ltb x y ≡ t
        → cond s (leftmost xs ys) t
        ≡ cond (eqb (bytes_after (a * 256 + x) k xs) (bytes_after (a * 256 + y) k ys))
        (leftmost (drop k xs) (drop k ys)) (ltb (bytes_after (a * 256 + x) k xs) (bytes_after (a * 256 + y) k ys))
    go ih true s t e =
        let q : x ≡ y = eqb-true x y s in
        ih ∙ ap (λ (z : ℕ). cond (eqb (bytes_after (a * 256 + x) k xs) (bytes_after (a * 256 + z) k ys))
        (leftmost (drop k xs) (drop k ys)) (ltb (bytes_after (a * 256 + x) k xs) (bytes_after (a * 256 + z) k ys))) q
    go ih false s true e =
        let l : x < y = ltb-true x y e in
        let m : bytes_after (a * 256 + x) k xs < bytes_after (a * 256 + y) k ys = after_less k (a * 256 + x) (a * 256 + y) xs ys p' q' (omega arith) in
        rw (
          ne_eqb (bytes_after (a * 256 + x) k xs) (bytes_after (a * 256 + y) k ys) (λ z. omega arith),
          lt-ltb (bytes_after (a * 256 + x) k xs) (bytes_after (a * 256 + y) k ys) m,
        )
    go ih false s false e =
        let n : x ≡ y → ⊥ = eqb-false x y s in
        let l : y ≤ x = ltb-false x y e in
        let l' : y < x = omega arith in
        let m : bytes_after (a * 256 + y) k ys < bytes_after (a * 256 + x) k xs = after_less k (a * 256 + y) (a * 256 + x) ys xs q' p' (omega arith) in
        rw (
          ne_eqb (bytes_after (a * 256 + x) k xs) (bytes_after (a * 256 + y) k ys) (λ z. omega arith),
          le-ltb (bytes_after (a * 256 + x) k xs) (bytes_after (a * 256 + y) k ys) (omega arith),
        )

-- comparisons with one meaning have one result
ltb_alike : (a b x y : ℕ) → (a < b → x < y) → (x < y → a < b) → ltb a b ≡ ltb x y
ltb_alike a b x y f g = go (ltb a b) refl (ltb x y) refl
  where
    go : (s : Bool) → ltb a b ≡ s → (t : Bool) → ltb x y ≡ t → s ≡ t
    go true s true t = refl
    go true s false t = true_false (ltb x y) (lt-ltb x y (f (ltb-true a b s))) t
    go false s true t = true_false (ltb a b) (lt-ltb a b (g (ltb-true x y t))) s
    go false s false t = refl

-- nothing left after k
last_part : (u v : ℕ) (xs ys : List ℕ) → xs ≡ [] → cond (eqb u v) (leftmost xs ys) (ltb u v) ≡ ltb u v
last_part u v xs ys e =
    ap (λ (l : List ℕ). cond (eqb u v) (leftmost l ys) (ltb u v)) e ∙ go (eqb u v) refl
  where
    go : (s : Bool) → eqb u v ≡ s → cond s false (ltb u v) ≡ ltb u v
    go true s = let q : u ≡ v = eqb-true u v s in sym (le-ltb u v (omega arith))
    go false s = refl

mem_drop : (k : ℕ) (xs : List ℕ) {t : ℕ} → Memᴰ t (drop k xs) → Memᴰ t xs
mem_drop zero xs m = m
mem_drop (suc k) [] m = m
mem_drop (suc k) (x ∷ xs) m = Memᴰ.tail (mem_drop k xs m)

-- at most eight bytes, as two numbers
threads_before : (xs ys : List ℕ) → Bytes xs → Bytes ys → length xs ≡ length ys → length xs ≤ 8
    → cond (eqb (bytes_after 0 4 xs) (bytes_after 0 4 ys)) (ltb (bytes_after 0 4 (drop 4 xs)) (bytes_after 0 4 (drop 4 ys)))
    (ltb (bytes_after 0 4 xs) (bytes_after 0 4 ys))
    ≡ leftmost xs ys
threads_before xs ys p q l h =
    let xs' : List ℕ = drop 4 xs in
    let ys' : List ℕ = drop 4 ys in
    let l' : length xs' ≡ length ys' = simp length-drop (omega arith) in
    let e : drop 4 xs' ≡ [] = drop_of_length-le xs' {i = 4} (simp length-drop (omega arith)) in
    let second : leftmost xs' ys' ≡ ltb (bytes_after 0 4 xs') (bytes_after 0 4 ys') =
    after_leftmost 4 0 xs' ys' (λ t m. p t (mem_drop 4 xs m)) (λ t m. q t (mem_drop 4 ys m)) l'
    ∙ last_part (bytes_after 0 4 xs') (bytes_after 0 4 ys') (drop 4 xs') (drop 4 ys') e in
    sym (after_leftmost 4 0 xs ys p q l
    ∙ ap (λ (b : Bool). cond (eqb (bytes_after 0 4 xs) (bytes_after 0 4 ys)) b (ltb (bytes_after 0 4 xs) (bytes_after 0 4 ys))) second)

-- the three numbers of two configurations are compared as these are
pub packed_before : (p q : Configuration) → Fits p → Fits q
    → numbers_before (number0 p) (number1 p) (number2 p) (number0 q) (number1 q) (number2 q) ≡ configuration_before p q
packed_before p q f g =
    all p.store q.store (length p.threads) (length q.threads) f.few g.few
    (cond (eqb (number1 p) (number1 q)) (ltb (number2 p) (number2 q)) (ltb (number1 p) (number1 q))) (leftmost p.threads q.threads)
    (λ l. threads_before p.threads q.threads f.bytes g.bytes l f.few)
  where
    all : (s s' n n' : ℕ) → n ≤ 8 → n' ≤ 8 → (b c : Bool) → (n ≡ n' → b ≡ c)
        → cond (eqb (s * 256 + n) (s' * 256 + n')) b (ltb (s * 256 + n) (s' * 256 + n')) ≡ cond (eqb s s') (cond (eqb n n') c (ltb n n')) (ltb s s')
    all s s' n n' h h' b c e = go (eqb s s') refl (eqb n n') refl
      where
        go : (u : Bool) → eqb s s' ≡ u → (v : Bool) → eqb n n' ≡ v
            → cond (eqb (s * 256 + n) (s' * 256 + n')) b (ltb (s * 256 + n) (s' * 256 + n')) ≡ cond u (cond v c (ltb n n')) (ltb s s')
        go true u true v =
            let i : s ≡ s' = eqb-true s s' u in
            let j : n ≡ n' = eqb-true n n' v in
            rw (eq-eqb (s * 256 + n) (s' * 256 + n') (omega arith)) (e j)
        go true u false v =
            let i : s ≡ s' = eqb-true s s' u in
            let j : n ≡ n' → ⊥ = eqb-false n n' v in
            rw (ne_eqb (s * 256 + n) (s' * 256 + n') (λ z. j (omega arith)))
            (ltb_alike (s * 256 + n) (s' * 256 + n') n n' (λ z. omega arith) (λ z. omega arith))
        go false u v w =
            let i : s ≡ s' → ⊥ = eqb-false s s' u in
            rw (ne_eqb (s * 256 + n) (s' * 256 + n') (λ z. i (omega arith)))
            (ltb_alike (s * 256 + n) (s' * 256 + n') s s' (λ z. omega (arith, h, h')) (λ z. omega (arith, h, h')))

-- numbers that hold configurations are compared as these are
pub numbers_before_lem : (x y : Numbers) → PackedIn x → PackedIn y → before x y ≡ configuration_before (stands_for x) (stands_for y)
numbers_before_lem x y p q =
    let u : Configuration = stands_for x in
    let v : Configuration = stands_for y in
    sym (ap₂ (λ (m n : ℕ). numbers_before m x.b x.c n y.b y.c) p.first q.first)
    ∙ sym (ap₂ (λ (m n : ℕ). numbers_before (number0 u) m x.c (number0 v) n y.c) p.second q.second)
    ∙ sym (ap₂ (λ (m n : ℕ). numbers_before (number0 u) (number1 u) m (number0 v) (number1 v) n) p.third q.third)
    ∙ packed_before u v p.fits q.fits

-- and have their side
pub numbers_side : (x y : Numbers) → PackedIn x → PackedIn y
    → compared x y ≡ side_of (configuration_before (stands_for x) (stands_for y)) (configuration_before (stands_for y) (stands_for x))
numbers_side x y p q = ap₂ side_of (numbers_before_lem x y p q) (numbers_before_lem y x q p)

-- ---- what the side says
pub side_before : (s t : Bool) → side_of s t ≡ Less → s ≡ true
side_before true t h = refl
side_before false true h = cc
side_before false false h = cc

pub side_same : (s t : Bool) → side_of s t ≡ Equal → (s ≡ false) × (t ≡ false)
side_same true t h = cc
side_same false true h = cc
side_same false false h = (refl, refl)

pub side_after : (s t : Bool) → side_of s t ≡ Greater → t ≡ true
side_after true t h = cc
side_after false true h = refl
side_after false false h = cc

-- ---- the numbers of a configuration that fits stand for it
-- four bytes taken out again
four_bytes : (ts : List ℕ) → Bytes ts
    → (bytes_after 0 4 ts / 16777216 ≡ get_or ts 0 0) × (bytes_after 0 4 ts / 65536 % 256 ≡ get_or ts 1 0)
    × (bytes_after 0 4 ts / 256 % 256 ≡ get_or ts 2 0) × (bytes_after 0 4 ts % 256 ≡ get_or ts 3 0)
four_bytes [] p = (omega arith, omega arith, omega arith, omega arith)
four_bytes (x ∷ []) p =
    let a = p x (Memᴰ.head refl) in
    (omega arith, omega arith, omega arith, omega arith)
four_bytes (x ∷ y ∷ []) p =
    let a = p x (Memᴰ.head refl) in
    let b = p y (Memᴰ.tail (Memᴰ.head refl)) in
    (omega arith, omega arith, omega arith, omega arith)
four_bytes (x ∷ y ∷ z ∷ []) p =
    let a = p x (Memᴰ.head refl) in
    let b = p y (Memᴰ.tail (Memᴰ.head refl)) in
    let c = p z (Memᴰ.tail (Memᴰ.tail (Memᴰ.head refl))) in
    (omega arith, omega arith, omega arith, omega arith)
four_bytes (x ∷ y ∷ z ∷ t ∷ ts) p =
    let a = p x (Memᴰ.head refl) in
    let b = p y (Memᴰ.tail (Memᴰ.head refl)) in
    let c = p z (Memᴰ.tail (Memᴰ.tail (Memᴰ.head refl))) in
    let d = p t (Memᴰ.tail (Memᴰ.tail (Memᴰ.tail (Memᴰ.head refl)))) in
    (omega arith, omega arith, omega arith, omega arith)

-- a list of at most eight by its elements
eight : (ts : List ℕ) → length ts ≤ 8
    → take (length ts) (get_or ts 0 0 ∷ get_or ts 1 0 ∷ get_or ts 2 0 ∷ get_or ts 3 0 ∷ get_or ts 4 0 ∷ get_or ts 5 0 ∷ get_or ts 6 0 ∷ get_or ts 7 0 ∷ []) ≡ ts
eight [] h = refl
eight (a ∷ []) h = refl
eight (a ∷ b ∷ []) h = refl
eight (a ∷ b ∷ c ∷ []) h = refl
eight (a ∷ b ∷ c ∷ d ∷ []) h = refl
eight (a ∷ b ∷ c ∷ d ∷ e ∷ []) h = refl
eight (a ∷ b ∷ c ∷ d ∷ e ∷ f ∷ []) h = refl
eight (a ∷ b ∷ c ∷ d ∷ e ∷ f ∷ g ∷ []) h = refl
eight (a ∷ b ∷ c ∷ d ∷ e ∷ f ∷ g ∷ i ∷ []) h = refl
eight (a ∷ b ∷ c ∷ d ∷ e ∷ f ∷ g ∷ i ∷ j ∷ ts) h = absurd (omega arith)

pub unpacked_numbers : (p : Configuration) → Fits p → unpacked (number0 p) (number1 p) (number2 p) ≡ p
unpacked_numbers p f =
    let ts : List ℕ = p.threads in
    let n : ℕ = length ts in
    let x = four_bytes ts f.bytes in
    let y = four_bytes (drop 4 ts) (λ t m. f.bytes t (mem_drop 4 ts m)) in
    let s : (p.store * 256 + n) / 256 ≡ p.store = omega (arith, f.few) in
    let c : (p.store * 256 + n) % 256 ≡ n = omega (arith, f.few) in
    ap₂ (λ (k : ℕ) (l : List ℕ). record { store = k; threads = l }) s
    (rw (c, x.0, x.1, x.2, x.3, y.0, y.1, y.2, y.3, get_or-drop 4 ts 0 0, get_or-drop 4 ts 1 0, get_or-drop 4 ts 2 0, get_or-drop 4 ts 3 0)
    (eight ts f.few))

pub packed_numbers : (p : Configuration) → Fits p → Packed (number0 p) (number1 p) (number2 p)
packed_numbers p f =
    let e = unpacked_numbers p f in
    record { fits = subst Fits (sym e) f; first = ap number0 e; second = ap number1 e; third = ap number2 e }

-- they hold at most eight threads
pub packed_count : {a b c : ℕ} → Packed a b c → a % 256 ≤ 8
packed_count {a} {b} {c} p = omega (arith, p.first, length-take (a % 256) (eight_bytes b c))

-- side Less is the test whether the first stands before the second
side_less : (s t : Bool) → is_lt (side_of s t) ≡ s
side_less true t = refl
side_less false true = refl
side_less false false = refl

pub compared_before : (x y : Numbers) → PackedIn x → PackedIn y → (r : Ordering) → r ≡ compared x y
    → is_lt r ≡ configuration_before (stands_for x) (stands_for y)
compared_before x y p q r e = ap is_lt e ∙ side_less (before x y) (before y x) ∙ numbers_before_lem x y p q
