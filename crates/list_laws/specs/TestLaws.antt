-- Laws of tests: `&&`, `||` and `not` of the library, read as statements.
use Rattle.std.specs.Prelude.{◌≡◌, refl, Bool, true, false, not, ◌&&◌, ◌||◌, ℕ, ◌<◌}
use Rattle.std.proofs.Common.{sym, ◌∙◌, arith}
use Rattle.std.proofs.lemmas.Bool.{false≢true}

pub true_false : {A : Type 0} (b : Bool) → b ≡ true → b ≡ false → A
true_false b p q = absurd (false≢true (sym q ∙ p))

pub and_left : (a b : Bool) → (a && b) ≡ true → a ≡ true
and_left true b h = refl
and_left false b h = h

pub and_right : (a b : Bool) → (a && b) ≡ true → b ≡ true
and_right true b h = h
and_right false b h = true_false false h refl

pub and_intro : {a b : Bool} → a ≡ true → b ≡ true → (a && b) ≡ true
and_intro p q = rw (p, q)

pub or_left : {a : Bool} (b : Bool) → a ≡ true → (a || b) ≡ true
or_left b p = rw p

pub or_right : (a : Bool) {b : Bool} → b ≡ true → (a || b) ≡ true
or_right true p = refl
or_right false p = p

pub or_fails : {a b : Bool} → a ≡ false → b ≡ false → (a || b) ≡ false
or_fails p q = rw (p, q)

-- neither of two tests passes
pub or_false : (a b : Bool) → (a || b) ≡ false → (a ≡ false) × (b ≡ false)
or_false true b h = true_false true refl h
or_false false b h = (refl, h)

-- a test is true or false
pub data Tested (b : Bool) : Type 0 where
  passes : b ≡ true → Tested b
  fails : b ≡ false → Tested b

pub tested : (b : Bool) → Tested b
tested true = passes refl
tested false = fails refl

pub not_passes : {b : Bool} → b ≡ false → not b ≡ true
not_passes p = rw p

pub not_fails : {b : Bool} → b ≡ true → not b ≡ false
not_fails p = rw p

-- of two numbers neither is below the other
pub neither_below : (n m : ℕ) → (n < m → ⊥) → (m < n → ⊥) → n ≡ m
neither_below n m h k = omega (arith, h, k)

-- two tests that imply each other are equal
pub same_test : (a b : Bool) → (a ≡ true → b ≡ true) → (b ≡ true → a ≡ true) → a ≡ b
same_test true b f g = sym (f refl)
same_test false true f g = g refl
same_test false false f g = refl

-- a decision read off a test
pub test_dec : {A : Type 0} (b : Bool) → (b ≡ true → A) → (A → b ≡ true) → Dec A
test_dec true f g = yes (f refl)
test_dec false f g = no (λ a. false≢true (g a))

-- ---- decisions of statements made from others
pub not_dec : {A : Type 0} → Dec A → Dec (A → ⊥)
not_dec (yes a) = no (λ f. f a)
not_dec (no f) = yes f

pub both_dec : {A B : Type 0} → Dec A → Dec B → Dec (A × B)
both_dec (yes a) (yes b) = yes (a, b)
both_dec (yes a) (no g) = no (λ t. g t.1)
both_dec (no f) d = no (λ t. f t.0)

pub when_dec : {A B : Type 0} → Dec A → Dec B → Dec (A → B)
when_dec (no f) d = yes (λ a. absurd (f a))
when_dec (yes a) (yes b) = yes (λ x. b)
when_dec (yes a) (no g) = no (λ f. g (f a))
