-- A list given by its elements: element i is f i, for i below a count.
use Rattle.std.specs.Prelude.{◌≡◌, length, ltb}
use Rattle.std.proofs.Math.Path.{refl, ap}
use Rattle.std.proofs.Common.{◌∙◌, arith}
use mathlib.Core.List.{List, [], ◌∷◌, ◌++◌}
use Prim.Native.Nat.{ℕ, zero, suc, ◌+◌, ◌<◌}
use Rattle.std.proofs.Math.Numerals.{add-one}
use Rattle.std.proofs.Math.ListN.{get_or, length-append, get_or-append}
use Rattle.std.proofs.Math.Seq.{get_or_at}
use borrow.Author.Tests.{ltb-true, ltb-false}
use Rattle.list_laws.specs.TestLaws.{Tested, passes, fails, tested}

module _ {A : Type 0} where
  -- f 0, f 1 and so on, n of them; the last one last
  unfoldable pub tabulate : (ℕ → A) → ℕ → List A
  tabulate f zero = []
  tabulate f (suc n) = tabulate f n ++ (f n ∷ [])

  pub tabulate_none : (f : ℕ → A) → tabulate f 0 ≡ []
  unfolding tabulate
  tabulate_none f = refl

  pub tabulate_next : (f : ℕ → A) (n : ℕ) → tabulate f (n + 1) ≡ tabulate f n ++ (f n ∷ [])
  unfolding tabulate
  tabulate_next f n = rw add-one

  -- only the elements below the count matter
  pub tabulate_same : (f g : ℕ → A) (n : ℕ) → ((i : ℕ) → i < n → f i ≡ g i) → tabulate f n ≡ tabulate g n
  unfolding tabulate
  tabulate_same f g zero h = refl
  tabulate_same f g (suc n) h = rw (tabulate_same f g n (λ i l. h i (omega arith)), h n (omega arith))

  pub tabulate_length : (f : ℕ → A) (n : ℕ) → length (tabulate f n) ≡ n
  unfolding tabulate
  tabulate_length f zero = refl
  tabulate_length f (suc n) = length-append (tabulate f n) (f n ∷ []) ∙ rw (tabulate_length f n, add-one)

  -- the element at each place below the count
  pub tabulate_at : (f : ℕ → A) (n k : ℕ) (d : A) → k < n → get_or (tabulate f n) k d ≡ f k
  unfolding tabulate
  tabulate_at f zero k d l = absurd (omega arith)
  tabulate_at f (suc n) k d l = go (tabulate_at f n k d) (tested (ltb k n))
    where
      go : (k < n → get_or (tabulate f n) k d ≡ f k) → Tested (ltb k n) → get_or (tabulate f n ++ (f n ∷ [])) k d ≡ f k
      go ih (passes t) =
          let h = ltb-true k n t in
          get_or-append (tabulate f n) (f n ∷ []) d k (omega (arith, tabulate_length f n)) ∙ ih h
      go ih (fails t) =
          let e : n ≡ k = omega (arith, ltb-false k n t) in
          get_or_at (tabulate f n) (f n) [] d k (tabulate_length f n ∙ e) ∙ ap f e
