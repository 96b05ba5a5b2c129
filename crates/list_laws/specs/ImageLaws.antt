-- Lists whose elements are the images of others': what a test or an order makes of the images is the image of what another makes of the
-- elements, where the two agree.
use Rattle.std.specs.Prelude.{◌≡◌, refl, Bool, true, false, cond, ◌&&◌, ◌||◌}
use Rattle.std.proofs.Common.{sym, ap, ap₂, ◌∙◌}
use mathlib.Core.List.{List, [], ◌∷◌, ◌++◌, map, map-append, map-map, Memᴰ}
use Rattle.list_laws.specs.ListPlaces.{map_alike}
use Rattle.lists.specs.Lists.{select, any, all, concat_map, place, enter, arrange}

module _ {A B : Type 0} (f : A → B) where
  -- ---- tests on images
  -- a choice between two images
  pub cond_image : (t : Bool) (a b : A) → cond t (f a) (f b) ≡ f (cond t a b)
  cond_image true a b = refl
  cond_image false a b = refl

  pub any_image : (p : B → Bool) (q : A → Bool) (xs : List A) → ((a : A) → Memᴰ a xs → p (f a) ≡ q a) → any p (map f xs) ≡ any q xs
  any_image p q [] h = refl
  any_image p q (x ∷ xs) h = ap₂ ◌||◌ (h x (Memᴰ.head refl)) (any_image p q xs (λ a m. h a (Memᴰ.tail m)))

  pub all_image : (p : B → Bool) (q : A → Bool) (xs : List A) → ((a : A) → Memᴰ a xs → p (f a) ≡ q a) → all p (map f xs) ≡ all q xs
  all_image p q [] h = refl
  all_image p q (x ∷ xs) h = ap₂ ◌&&◌ (h x (Memᴰ.head refl)) (all_image p q xs (λ a m. h a (Memᴰ.tail m)))

  pub select_image : (p : B → Bool) (q : A → Bool) (xs : List A) → ((a : A) → Memᴰ a xs → p (f a) ≡ q a)
      → select p (map f xs) ≡ map f (select q xs)
  select_image p q [] h = refl
  select_image p q (x ∷ xs) h =
      ap₂ (λ (t : Bool) (l : List B). cond t (f x ∷ l) l) (h x (Memᴰ.head refl)) (select_image p q xs (λ a m. h a (Memᴰ.tail m)))
      ∙ go (q x)
    where
      go : (t : Bool) → cond t (f x ∷ map f (select q xs)) (map f (select q xs)) ≡ map f (cond t (x ∷ select q xs) (select q xs))
      go true = refl
      go false = refl

  -- ---- images in order
  module _ (beforeImages : B → B → Bool) (before : A → A → Bool) (alike : (a b : A) → beforeImages (f a) (f b) ≡ before a b) where
    enter_image : (a : A) (xs : List A) → enter beforeImages (f a) (map f xs) ≡ map f (enter before a xs)
    enter_image a [] = refl
    enter_image a (x ∷ xs) =
        (λ i. place (alike a x i) (alike x a i) (f a) (f x) (map f xs) (enter_image a xs i)) ∙ go (before a x) (before x a)
      where
        go : (t u : Bool) → place t u (f a) (f x) (map f xs) (map f (enter before a xs)) ≡ map f (place t u a x xs (enter before a xs))
        go true u = refl
        go false true = refl
        go false false = refl

    -- images are arranged as the elements are
    pub arrange_image : (xs : List A) → arrange beforeImages (map f xs) ≡ map f (arrange before xs)
    arrange_image [] = refl
    arrange_image (x ∷ xs) = ap (enter beforeImages (f x)) (arrange_image xs) ∙ enter_image x (arrange before xs)

-- images of images, made in two ways
pub map_image : {A B C D : Type 0} (f : A → B) (g : B → D) (h : A → C) (k : C → D) (xs : List A)
    → ((a : A) → Memᴰ a xs → g (f a) ≡ k (h a)) → map g (map f xs) ≡ map k (map h xs)
map_image f g h k xs e = map-map g f xs ∙ map_alike (λ a. g (f a)) (λ a. k (h a)) xs e ∙ sym (map-map k h xs)

-- the lists of all images, one after another
pub concat_map_image : {A B C D : Type 0} (f : A → B) (g : B → List D) (h : A → List C) (k : C → D) (xs : List A)
    → ((a : A) → Memᴰ a xs → g (f a) ≡ map k (h a)) → concat_map g (map f xs) ≡ map k (concat_map h xs)
concat_map_image f g h k [] e = refl
concat_map_image f g h k (x ∷ xs) e =
    ap₂ ◌++◌ (e x (Memᴰ.head refl)) (concat_map_image f g h k xs (λ a m. e a (Memᴰ.tail m)))
    ∙ sym (map-append k (h x) (concat_map h xs))
