-- A reading that is sound: what it gets is what the bytes are, and what refuses it refuses them. Shown field by field, as it is made.
use Rattle.std.specs.Prelude.{◌≡◌, refl, Bool, true, false, ℕ}
use Rattle.std.proofs.Common.{sym, arith}
use Rattle.sheet_reading.specs.Reading.{Reading, got, refused, and_then, refused_if}

pub record Sound {A : Type 0} (Is : A → ℕ → Type 0) (Refused : ℕ → ℕ → Type 0) (r : Reading A) : Type 0 where
  pub got_is : (v : A) (next : ℕ) → r ≡ got v next → Is v next
  pub refused_is : (number place : ℕ) → r ≡ refused number place → Refused number place

-- nothing is both got and refused
pub got_not_refused : {A : Type 0} {v : A} {next number place : ℕ} → got v next ≡ refused number place → ⊥
got_not_refused e = let z : ◌≡◌ {A = ℕ} 0 1 = cc in omega arith

module _ {A : Type 0} {Is : A → ℕ → Type 0} {Refused : ℕ → ℕ → Type 0} where
  pub sound_got : (v : A) (next : ℕ) → Is v next → Sound Is Refused (got v next)
  sound_got v next h = record { got_is = λ w n e. cast w n e; refused_is = λ number place e. absurd (got_not_refused e) }
    where
      cast : (w : A) (n : ℕ) → got v next ≡ got w n → Is w n
      cast w n e =
          let x : v ≡ w = cc in
          let y : next ≡ n = cc in
          rw (sym x, sym y) h

  pub sound_refused : (number place : ℕ) → Refused number place → Sound Is Refused (refused number place)
  sound_refused number place h =
      record { got_is = λ w n e. absurd (got_not_refused (sym e)); refused_is = λ k p e. cast k p e }
    where
      cast : (k p : ℕ) → ◌≡◌ {A = Reading A} (refused number place) (refused k p) → Refused k p
      cast k p e =
          let x : number ≡ k = cc in
          let y : place ≡ p = cc in
          rw (sym x, sym y) h

  -- a check, and what is read where it passes
  pub if_sound : (wrong : Bool) (number place : ℕ) (r : Reading A) → (wrong ≡ true → Refused number place)
      → (wrong ≡ false → Sound Is Refused r) → Sound Is Refused (refused_if wrong number place r)
  if_sound true number place r h k = sound_refused number place (h refl)
  if_sound false number place r h k = k refl

  -- one field after another
  pub then_sound : {B : Type 0} {Field : B → ℕ → Type 0} {FieldRefused : ℕ → ℕ → Type 0} (r : Reading B) (f : B → ℕ → Reading A)
      → Sound Field FieldRefused r → ((number place : ℕ) → FieldRefused number place → Refused number place)
      → ((v : B) (next : ℕ) → Field v next → Sound Is Refused (f v next)) → Sound Is Refused (and_then r f)
  then_sound (got v next) f h back on = on v next (h.got_is v next refl)
  then_sound (refused number place) f h back on = sound_refused number place (back number place (h.refused_is number place refl))

-- it is what was said of it, said otherwise
pub sound_as : {A : Type 0} {Is Is2 : A → ℕ → Type 0} {Refused Refused2 : ℕ → ℕ → Type 0} {r : Reading A}
    → ((v : A) (next : ℕ) → Is v next → Is2 v next) → ((number place : ℕ) → Refused number place → Refused2 number place)
    → Sound Is Refused r → Sound Is2 Refused2 r
sound_as f g h =
    record { got_is = λ v next e. f v next (h.got_is v next e); refused_is = λ number place e. g number place (h.refused_is number place e) }

-- It gets exactly what the bytes are, and is refused exactly by what refuses them.
pub record ReadsAs {A : Type 0} (Is : A → ℕ → Type 0) (Refused : ℕ → ℕ → Type 0) (r : Reading A) : Type 0 where
  pub sound : Sound Is Refused r
  pub is_got : (v : A) (next : ℕ) → Is v next → r ≡ got v next
  pub is_refused : (number place : ℕ) → Refused number place → r ≡ refused number place

-- what is made of the value that is got
pub value_reads : {A B : Type 0} {Is : A → ℕ → Type 0} {Refused : ℕ → ℕ → Type 0} {r : Reading A} (f : A → B) → ReadsAs Is Refused r
    → ReadsAs (λ v next. (a : A) × (v ≡ f a) × Is a next) Refused (and_then r (λ a next. got (f a) next))
value_reads {r = r} f h =
    record {
      sound = then_sound r (λ a next. got (f a) next) h.sound (λ number place x. x) (λ a next i. sound_got (f a) next (a, refl, i));
      is_got = λ v next x. rw (h.is_got x.0 next x.2, x.1);
      is_refused = λ number place x. rw (h.is_refused number place x);
    }
