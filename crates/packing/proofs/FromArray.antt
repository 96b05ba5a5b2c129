-- The three numbers worked out from a store, a count and an array of threads.
use Rattle.std.specs.Prelude.{◌≡◌, ℕ, suc, ◌+◌, ◌*◌, ◌≤◌, ◌<◌, length, get_or, take, drop}
use Rattle.std.proofs.Common.{sym, ap, ap₂, ◌∙◌, subst, arith, length-take, get_or-drop, get_or-take, length-take-le}
use mathlib.Core.List.Memᴰ
use mathlib.Core.List.{List, [], ◌∷◌, Memᴰ}
use Rattle.moves.specs.Sheet.{Configuration}
use Rattle.packing.specs.Packing.{bytes_after, number0, number1, number2, unpacked, Packed, Fits}
use Rattle.packing.proofs.PackingLaws.{unpacked_numbers, packed_numbers}

-- four bytes added up
bytes_sum : (xs : List ℕ) → get_or xs 0 0 * 16777216 + get_or xs 1 0 * 65536 + get_or xs 2 0 * 256 + get_or xs 3 0 ≡ bytes_after 0 4 xs
bytes_sum [] = omega arith
bytes_sum (x ∷ []) = omega arith
bytes_sum (x ∷ y ∷ []) = omega arith
bytes_sum (x ∷ y ∷ z ∷ []) = omega arith
bytes_sum (x ∷ y ∷ z ∷ t ∷ ts) = omega arith

pub four_sum : (xs : List ℕ) (from a b c d : ℕ) → a ≡ get_or xs from 0 → b ≡ get_or xs (from + 1) 0 → c ≡ get_or xs (from + 2) 0 → d ≡ get_or xs (from + 3) 0
    → a * 16777216 + b * 65536 + c * 256 + d ≡ bytes_after 0 4 (drop from xs)
four_sum xs from a b c d p q r s =
    let z : from + 0 ≡ from = omega arith in
    let p' : a ≡ get_or (drop from xs) 0 0 = p ∙ ap (λ (k : ℕ). get_or xs k 0) (sym z) ∙ sym (get_or-drop from xs 0 0) in
    let q' : b ≡ get_or (drop from xs) 1 0 = q ∙ sym (get_or-drop from xs 1 0) in
    let r' : c ≡ get_or (drop from xs) 2 0 = r ∙ sym (get_or-drop from xs 2 0) in
    let s' : d ≡ get_or (drop from xs) 3 0 = s ∙ sym (get_or-drop from xs 3 0) in
    rw (p', q', r', s') (bytes_sum (drop from xs))

-- every element is below a bound that the elements at all places are below
pub mem_below : (xs : List ℕ) (m : ℕ) → ((k : ℕ) → k < length xs → get_or xs k 0 < m) → (t : ℕ) → Memᴰ t xs → t < m
mem_below [] m h t i = absurd (Memᴰ.not-nil i)
mem_below (x ∷ xs) m h t (Memᴰ.head e) = omega (arith, e, h 0 (omega arith))
mem_below (x ∷ xs) m h t (Memᴰ.tail i) = mem_below xs m (λ k l. h (suc k) (omega arith)) t i

-- a store and the first threads of an array fit
pub array_fits : (s count : ℕ) (ts : List ℕ) → s < 65536 → count ≤ 8 → ((k : ℕ) → k < length ts → get_or ts k 0 < 256)
    → Fits (record { store = s; threads = take count ts })
array_fits s count ts h l b =
    record {
      few = omega (arith, length-take count ts);
      bytes = mem_below (take count ts) 256
          (λ k i. omega (arith, length-take count ts, get_or-take count ts k 0 (omega (arith, length-take count ts)), b k (omega (arith, length-take count ts))));
      small = h;
    }

-- the three numbers that the code works out
pub array_numbers : (s count : ℕ) (ts : List ℕ) (a b c : ℕ) → s < 65536 → count ≤ 8 → count ≤ length ts → ((k : ℕ) → k < length ts → get_or ts k 0 < 256)
    → a ≡ s * 256 + count → b ≡ bytes_after 0 4 (drop 0 (take count ts)) → c ≡ bytes_after 0 4 (drop 4 (take count ts))
    → Packed a b c × (unpacked a b c ≡ record { store = s; threads = take count ts })
array_numbers s count ts a b c h l m f p q r =
    let g : Configuration = record { store = s; threads = take count ts } in
    let fits : Fits g = array_fits s count ts h l f in
    let p' : a ≡ number0 g = p ∙ ap (λ (n : ℕ). s * 256 + n) (sym (length-take-le count ts m)) in
    let e : unpacked a b c ≡ unpacked (number0 g) (number1 g) (number2 g) =
    ap (λ (x : ℕ). unpacked x b c) p' ∙ ap₂ (λ (x y : ℕ). unpacked (number0 g) x y) q r in (
      subst (λ (x : ℕ). Packed x b c) (sym p')
          (subst (λ (x : ℕ). Packed (number0 g) x c) (sym q) (subst (λ (x : ℕ). Packed (number0 g) (number1 g) x) (sym r) (packed_numbers g fits))),
      e ∙ unpacked_numbers g fits,
    )
