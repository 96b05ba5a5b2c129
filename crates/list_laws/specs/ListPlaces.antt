-- Lists by the places of their elements.
use Rattle.std.specs.Prelude.{◌≡◌, refl, Bool, true, false, ℕ, zero, suc, ◌<◌, length, get_or}
use Rattle.std.proofs.Common.{ap₂, arith}
use mathlib.Core.List.{List, [], ◌∷◌, map, Memᴰ}
use Rattle.list_laws.specs.TestLaws.{or_fails}
use Rattle.lists.specs.Lists.{any, Ascends}
use Rattle.list_laws.specs.AscendingLaws.{Order, ascends_head, ascends_tail}

module _ {A : Type 0} where
  -- what stands at a place before the end is an element
  pub get_d_in : (xs : List A) (i : ℕ) (d : A) → i < length xs → Memᴰ (get_or xs i d) xs
  get_d_in [] i d l = absurd (omega arith)
  get_d_in (x ∷ xs) zero d l = Memᴰ.head refl
  get_d_in (x ∷ xs) (suc i) d l = Memᴰ.tail (get_d_in xs i d (omega arith))

  -- and what is to stand beyond the end does not matter there
  pub get_d_any : (xs : List A) (i : ℕ) (d e : A) → i < length xs → get_or xs i d ≡ get_or xs i e
  get_d_any [] i d e l = absurd (omega arith)
  get_d_any (x ∷ xs) zero d e l = refl
  get_d_any (x ∷ xs) (suc i) d e l = get_d_any xs i d e (omega arith)

  -- no element passes a test that fails at every place
  pub any_nowhere : (test : A → Bool) (xs : List A) (d : A) → ((j : ℕ) → j < length xs → test (get_or xs j d) ≡ false) → any test xs ≡ false
  any_nowhere test [] d f = refl
  any_nowhere test (x ∷ xs) d f = or_fails (f 0 (omega arith)) (any_nowhere test xs d (λ j l. f (suc j) (omega arith)))

  -- what stands at a lower place of an ascending list comes before
  pub ascends_places : (O : Order A) (xs : List A) → Ascends O.before xs → (i j : ℕ) (d : A) → i < j → j < length xs
      → O.before (get_or xs i d) (get_or xs j d) ≡ true
  ascends_places O [] s i j d h l = absurd (omega arith)
  ascends_places O (x ∷ xs) s i zero d h l = absurd (omega arith)
  ascends_places O (x ∷ xs) s zero (suc j) d h l = ascends_head O s (get_or xs j d) (get_d_in xs j d (omega arith))
  ascends_places O (x ∷ xs) s (suc i) (suc j) d h l = ascends_places O xs (ascends_tail O s) i j d (omega arith) (omega arith)

module _ {A B : Type 0} where
  -- the image of the element at a place stands at that place of the images
  pub get_d_image : (f : A → B) (xs : List A) (i : ℕ) (d : A) (e : B) → i < length xs → get_or (map f xs) i e ≡ f (get_or xs i d)
  get_d_image f [] i d e l = absurd (omega arith)
  get_d_image f (x ∷ xs) zero d e l = refl
  get_d_image f (x ∷ xs) (suc i) d e l = get_d_image f xs i d e (omega arith)

  -- only the images of the elements matter
  pub map_alike : (f g : A → B) (xs : List A) → ((a : A) → Memᴰ a xs → f a ≡ g a) → map f xs ≡ map g xs
  map_alike f g [] h = refl
  map_alike f g (x ∷ xs) h =
      ap₂ (λ (b : B) (l : List B). b ∷ l) (h x (Memᴰ.head refl)) (map_alike f g xs (λ a m. h a (Memᴰ.tail m)))
