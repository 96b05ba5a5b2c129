-- The same number added to every store and label changes no order, no place and no class.
use Rattle.std.specs.Prelude.{◌≡◌, Bool, not, ◌&&◌, length, get_or, eqb, ltb}
use Rattle.std.proofs.Math.Path.{refl, sym, ap₂}
use Rattle.std.proofs.Common.{ap, ◌∙◌, arith, eqb-true, eq-eqb, ltb-true, lt-ltb}
use Rattle.std.proofs.Math.Bool.{true, false, cond}
use mathlib.Core.List.{List, [], ◌∷◌, ◌++◌, map, map-append, Memᴰ}
use Prim.Native.Nat.{ℕ, suc, ◌+◌}
use Rattle.std.proofs.lemmas.List.{length-map}
use Rattle.comparison_laws.specs.Lists.{arrange}
use Rattle.comparison_laws.specs.TestLaws.{same_test}
use Rattle.comparison_laws.specs.Sheet.{Configuration}
use Rattle.comparison_laws.specs.Orders.{Move, by_threads, configuration_before, move_before}
use Rattle.comparison_laws.specs.Classes.{position, numbered_from, numbered, same_configuration, place_of, class_of, share}
use Rattle.comparison_laws.specs.ClassLaws.{numbered_same}
use Rattle.standing_laws.specs.StandingFacts.{raised, raised_configuration, raised_move}
use Rattle.comparison_laws.specs.ImageLaws.{arrange_image}

module _ {A B : Type 0} (f : A → B) where
  -- ---- places and numbers of images
  pub position_image : (p : B → Bool) (q : A → Bool) (xs : List A) → ((a : A) → Memᴰ a xs → p (f a) ≡ q a)
      → position p (map f xs) ≡ position q xs
  position_image p q [] h = refl
  position_image p q (x ∷ xs) h =
      ap₂ (λ (t : Bool) (n : ℕ). cond t 0 (suc n)) (h x (Memᴰ.head refl)) (position_image p q xs (λ a m. h a (Memᴰ.tail m)))

  numbered_from_image : (test : B → B → Bool) (firsts ps : List A)
      → numbered_from test (map f firsts) (map f ps) ≡ numbered_from (λ a b. test (f a) (f b)) firsts ps
  unfolding numbered_from
  numbered_from_image test firsts [] = refl
  numbered_from_image test firsts (p ∷ ps) =
      let at : position (λ b. test b (f p)) (map f firsts) ≡ position (λ a. test (f a) (f p)) firsts =
      position_image (λ b. test b (f p)) (λ a. test (f a) (f p)) firsts (λ a m. refl) in
      let known : ℕ → ℕ → List B = λ n k. cond (eqb n k) (map f firsts ++ (f p ∷ [])) (map f firsts) in
      ap₂ (λ (n : ℕ) (l : List ℕ). n ∷ l) at
      (ap (λ (l : List B). numbered_from test l (map f ps))
      (ap₂ known at (length-map firsts f) ∙ go (eqb (position (λ a. test (f a) (f p)) firsts) (length firsts)))
      ∙ numbered_from_image test (cond (eqb (position (λ a. test (f a) (f p)) firsts) (length firsts)) (firsts ++ (p ∷ [])) firsts) ps)
    where
      go : (t : Bool) → cond t (map f firsts ++ (f p ∷ [])) (map f firsts) ≡ map f (cond t (firsts ++ (p ∷ [])) firsts)
      go true = sym (map-append f firsts (p ∷ []))
      go false = refl

  -- images are numbered as the elements are
  pub numbered_image : (test : B → B → Bool) (alike : A → A → Bool) (ps : List A)
      → ((a b : A) → Memᴰ a ps → Memᴰ b ps → test (f a) (f b) ≡ alike a b) → numbered test (map f ps) ≡ numbered alike ps
  numbered_image test alike ps h = numbered_from_image test [] ps ∙ numbered_same (λ a b. test (f a) (f b)) alike ps h

-- ---- the same number added to two
pub less_raised : (z a b : ℕ) → ltb (raised z a) (raised z b) ≡ ltb a b
less_raised z a b =
    same_test (ltb (a + z) (b + z)) (ltb a b)
    (λ e. lt-ltb a b (omega (arith, ltb-true (a + z) (b + z) e)))
    (λ e. lt-ltb (a + z) (b + z) (omega (arith, ltb-true a b e)))

pub equal_raised : (z a b : ℕ) → eqb (raised z a) (raised z b) ≡ eqb a b
equal_raised z a b =
    same_test (eqb (a + z) (b + z)) (eqb a b)
    (λ e. eq-eqb a b (omega (arith, eqb-true (a + z) (b + z) e)))
    (λ e. eq-eqb (a + z) (b + z) (omega (arith, eqb-true a b e)))

module _ (z : ℕ) where
  -- ---- orders and places
  pub configuration_before_raised : (p q : Configuration)
      → configuration_before (raised_configuration z p) (raised_configuration z q) ≡ configuration_before p q
  configuration_before_raised p q =
      ap₂ (λ (e l : Bool). cond e (by_threads p q) l) (equal_raised z p.store q.store) (less_raised z p.store q.store)

  pub move_before_raised : (m k : Move) → move_before (raised_move z m) (raised_move z k) ≡ move_before m k
  move_before_raised m k = λ i.
      cond (equal_raised z m.label k.label i) (configuration_before_raised m.target k.target i) (less_raised z m.label k.label i)

  pub same_configuration_raised : (p q : Configuration)
      → same_configuration (raised_configuration z p) (raised_configuration z q) ≡ same_configuration p q
  same_configuration_raised p q =
      ap₂ (λ (a b : Bool). not a && not b) (configuration_before_raised p q) (configuration_before_raised q p)

  pub place_of_raised : (set : List Configuration) (p : Configuration)
      → place_of (map (raised_configuration z) set) (raised_configuration z p) ≡ place_of set p
  place_of_raised set p =
      position_image (raised_configuration z) (same_configuration (raised_configuration z p)) (same_configuration p) set
      (λ q m. same_configuration_raised p q)

  pub class_of_raised : (set : List Configuration) (classes : List ℕ) (p : Configuration)
      → class_of (map (raised_configuration z) set) classes (raised_configuration z p) ≡ class_of set classes p
  class_of_raised set classes p = ap (λ (k : ℕ). get_or classes k 0) (place_of_raised set p)

  pub share_raised : (set : List Configuration) (classes : List ℕ) (p q : Configuration)
      → share (map (raised_configuration z) set) classes (raised_configuration z p) (raised_configuration z q) ≡ share set classes p q
  share_raised set classes p q = ap₂ eqb (class_of_raised set classes p) (class_of_raised set classes q)

  -- raised configurations stand in the order of the others
  pub arrange_raised : (ps : List Configuration)
      → arrange configuration_before (map (raised_configuration z) ps) ≡ map (raised_configuration z) (arrange configuration_before ps)
  arrange_raised ps = arrange_image (raised_configuration z) configuration_before configuration_before configuration_before_raised ps
