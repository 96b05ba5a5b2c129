-- Records that stand one after another in a list of bytes, each with a line of text: where each begins, and the lines so far.
use Rattle.std.specs.Prelude.{◌≡◌, refl, drop}
use Rattle.std.proofs.Math.Path.{sym, ap, ap₂}
use Rattle.std.proofs.Common.{◌∙◌, add-one, take-append-drop, take_all, drop-cons, drop-drop}
use mathlib.Core.List.{List, [], ◌∷◌, ◌++◌, append_assoc}
use Prim.Native.Nat.{ℕ, zero, suc, ◌+◌, ◌≤◌, ◌<◌}
use native.Mathlib.Omega.{arith}
use Rattle.std.proofs.Math.ListN.{length, get_or, take, length-append}
use Rattle.std.proofs.Math.Seq.{take-suc, drop-append_seam}
use Rattle.text.specs.Lists.{concat_map}
use Rattle.text.specs.SortingLaws.{concat_map_next}

-- where the record after the first n begins; a record that begins at a place ends at `end` of it
unfoldable pub place_after : (ℕ → ℕ) → ℕ → ℕ → ℕ
place_after end start zero = start
place_after end start (suc n) = end (place_after end start n)

-- the lines of the first n records; `piece` gives a record's line from its number and its place
unfoldable pub lines_of : (ℕ → ℕ → List ℕ) → (ℕ → ℕ) → ℕ → ℕ → List ℕ
lines_of piece end start zero = []
lines_of piece end start (suc n) = lines_of piece end start n ++ piece n (place_after end start n)

-- no record yet, and one more
pub place_none : (end : ℕ → ℕ) (start : ℕ) → place_after end start 0 ≡ start
unfolding place_after
place_none end start = refl

pub place_next : (end : ℕ → ℕ) (start n : ℕ) → place_after end start (n + 1) ≡ end (place_after end start n)
unfolding place_after
place_next end start n = rw (add-one n)

pub lines_none : (piece : ℕ → ℕ → List ℕ) (end : ℕ → ℕ) (start : ℕ) → lines_of piece end start 0 ≡ []
unfolding lines_of
lines_none piece end start = refl

pub lines_next : (piece : ℕ → ℕ → List ℕ) (end : ℕ → ℕ) (start n : ℕ)
    → lines_of piece end start (n + 1) ≡ lines_of piece end start n ++ piece n (place_after end start n)
unfolding lines_of
lines_next piece end start n = rw (add-one n)

concat_map_append : {A B : Type 0} (f : A → List B) (xs ys : List A) → concat_map f (xs ++ ys) ≡ concat_map f xs ++ concat_map f ys
concat_map_append f [] ys = refl
concat_map_append {A} {B} f (x ∷ xs) ys =
    ap (λ (l : List B). f x ++ l) (concat_map_append f xs ys) ∙ sym (append_assoc (f x) (concat_map f xs) (concat_map f ys))

module _ {A : Type 0} (bytes line : A → List ℕ) (s : List ℕ) (piece : ℕ → ℕ → List ℕ) (end : ℕ → ℕ) (start : ℕ)
    (xs : List A) (d : A) (rest : List ℕ) where
  -- the lines of the first n elements, and where their bytes end
  pub record Run (n : ℕ) : Type 0 where
    pub lines : lines_of piece end start n ≡ concat_map line (take n xs)
    pub place : place_after end start n ≡ start + length (concat_map bytes (take n xs))

  -- the bytes of element n begin where those of the first n end
  bytes_from : drop start s ≡ concat_map bytes xs ++ rest → (n : ℕ) → n < length xs
      → drop (start + length (concat_map bytes (take n xs))) s ≡ bytes (get_or xs n d) ++ (concat_map bytes (drop (suc n) xs) ++ rest)
  bytes_from h n l =
      let done : List ℕ = concat_map bytes (take n xs) in
      let more : List ℕ = concat_map bytes (drop (suc n) xs) in
      let split : concat_map bytes xs ≡ done ++ (bytes (get_or xs n d) ++ more) =
      ap (concat_map bytes) (sym (take-append-drop n xs)) ∙ concat_map_append bytes (take n xs) (drop n xs)
      ∙ ap (λ (ys : List A). done ++ concat_map bytes ys) (drop-cons xs n d l) in
      sym (drop-drop (length done) start s)
      ∙ ap (drop (length done)) (h ∙ ap (λ (b : List ℕ). b ++ rest) split ∙ append_assoc done (bytes (get_or xs n d) ++ more) rest)
      ∙ drop-append_seam done ((bytes (get_or xs n d) ++ more) ++ rest)
      ∙ append_assoc (bytes (get_or xs n d)) more rest

  -- Where the records are the bytes of elements, the lines are theirs.
  pub run_of : drop start s ≡ concat_map bytes xs ++ rest
      → ((n at : ℕ) (more : List ℕ) → n < length xs → drop at s ≡ bytes (get_or xs n d) ++ more
      → (piece n at ≡ line (get_or xs n d)) × (end at ≡ at + length (bytes (get_or xs n d))))
      → (n : ℕ) → n ≤ length xs → Run n
  unfolding place_after lines_of
  run_of h each zero l = record { lines = refl; place = omega arith }
  run_of h each (suc n) l =
      let before = run_of h each n (omega arith) in
      let x : A = get_or xs n d in
      let done : List ℕ = concat_map bytes (take n xs) in
      let more : List ℕ = concat_map bytes (drop (suc n) xs) ++ rest in
      let here = each n (start + length done) more (omega arith) (bytes_from h n (omega arith)) in
      let grown : take (suc n) xs ≡ take n xs ++ (x ∷ []) = take-suc xs n d (omega arith) in
      let long : length (concat_map bytes (take (suc n) xs)) ≡ length done + length (bytes x) =
      ap (λ (ys : List A). length (concat_map bytes ys)) grown
      ∙ ap length (concat_map_next bytes (take n xs) x)
      ∙ length-append done (bytes x) in
      record {
        lines =
            ap₂ (λ (a b : List ℕ). a ++ b) before.lines (ap (piece n) before.place ∙ here.0)
            ∙ sym (concat_map_next line (take n xs) x)
            ∙ ap (concat_map line) (sym grown);
        place = ap end before.place ∙ here.1 ∙ omega (arith, long);
      }

  -- all of them
  pub run_whole : drop start s ≡ concat_map bytes xs ++ rest
      → ((n at : ℕ) (more : List ℕ) → n < length xs → drop at s ≡ bytes (get_or xs n d) ++ more
      → (piece n at ≡ line (get_or xs n d)) × (end at ≡ at + length (bytes (get_or xs n d))))
      → (lines_of piece end start (length xs) ≡ concat_map line xs) × (place_after end start (length xs) ≡ start + length (concat_map bytes xs))
  run_whole h each =
      let r = run_of h each (length xs) (omega arith) in
      let all : take (length xs) xs ≡ xs = take_all (length xs) xs (omega arith) in
      (r.lines ∙ ap (concat_map line) all, r.place ∙ ap (λ (ys : List A). start + length (concat_map bytes ys)) all)
