-- Numbers listed in a slice behind those that stand there from a place on.
use Rattle.std.specs.Prelude.{◌≡◌, refl, List, [], ◌∷◌, ◌++◌, ℕ, ◌+◌, ◌<◌, length, take, drop, set}
use Rattle.std.proofs.Common.{sym, ap, ◌∙◌, append-nil, append_assoc, add-one, arith, length-append, length-drop, take-suc-set}
use Rattle.std.proofs.lemmas.List.{drop-set-add}
use Rattle.set_digits.specs.Frames.{SameOutside, outside_same, outside_set, outside_then}

-- the slice w is u with the numbers xs behind the n numbers from `at` on, which makes r of them
abbrev pub ListedBehind : ℕ → ℕ → List ℕ → List ℕ → ℕ → List ℕ → Type 0
ListedBehind at n u xs r w = (r ≡ n + length xs) × (take r (drop at w) ≡ take n (drop at u) ++ xs) × SameOutside (at + n) (at + r) u w

-- no number
pub listed_none : (at n : ℕ) (u : List ℕ) → ListedBehind at n u [] n u
listed_none at n u = (omega arith, sym (append-nil (take n (drop at u))), outside_same (at + n) (at + n) u)

-- one number
pub listed_one : (at n : ℕ) (u : List ℕ) (x : ℕ) → at + n < length u → ListedBehind at n u (x ∷ []) (n + 1) (set u (at + n) x)
listed_one at n u x h = (
  refl,
  ap (take (n + 1)) (drop-set-add at u n x) ∙ rw add-one (take-suc-set (drop at u) n x (simp length-drop (omega arith))),
  outside_set (at + n) (at + (n + 1)) u (at + n) x (omega arith) (omega arith),
)

-- numbers behind those that were listed first
pub listed_then : (at n : ℕ) (u xs : List ℕ) (m : ℕ) (v ys : List ℕ) (r : ℕ) (w : List ℕ)
    → ListedBehind at n u xs m v → ListedBehind at m v ys r w → ListedBehind at n u (xs ++ ys) r w
listed_then at n u xs m v ys r w f g = (
  omega (arith, f.0, g.0, length-append xs ys),
  g.1 ∙ ap (λ (l : List ℕ). l ++ ys) f.1 ∙ append_assoc (take n (drop at u)) xs ys,
  outside_then f.2 g.2 (at + n) (at + r) (omega arith) (omega (arith, f.0)) (omega (arith, g.0)) (omega arith),
)
