-- What holds of every value that a reading gets, and of the place after it: shown field by field, as a reading is made.
use Rattle.std.specs.Prelude.{◌≡◌, refl, Bool, true, false, List, [], ◌∷◌, ◌++◌, ℕ, zero, suc}
use Rattle.std.proofs.Common.{sym, arith}
use Rattle.sheet_reading.specs.Reading.{Reading, got, refused, and_then, refused_if, records_from}

pub record Gets {A : Type 0} (P : A → ℕ → Type 0) (r : Reading A) : Type 0 where
  pub holds : (v : A) (next : ℕ) → r ≡ got v next → P v next

pub gets_less : {A : Type 0} {P Q : A → ℕ → Type 0} {r : Reading A} → ((v : A) (next : ℕ) → P v next → Q v next) → Gets P r → Gets Q r
gets_less f h = record { holds = λ v next e. f v next (h.holds v next e) }

module _ {A : Type 0} (P : A → ℕ → Type 0) where
  pub got_gets : (v : A) (next : ℕ) → P v next → Gets P (got v next)
  got_gets v next h = record { holds = λ w n e. cast w n e }
    where
      cast : (w : A) (n : ℕ) → got v next ≡ got w n → P w n
      cast w n e =
          let x : v ≡ w = cc in
          let y : next ≡ n = cc in
          rw (sym x, sym y) h

  refused_gets : (number place : ℕ) → Gets P (refused number place)
  refused_gets number place = record { holds = λ w n e. absurd (never w n e) }
    where
      never : (w : A) (n : ℕ) → refused number place ≡ got w n → ⊥
      never w n e = let z : ◌≡◌ {A = ℕ} 0 1 = cc in omega arith

  -- a check that passes
  pub checked_gets : (wrong : Bool) (number place : ℕ) (r : Reading A) → (wrong ≡ false → Gets P r) → Gets P (refused_if wrong number place r)
  checked_gets true number place r h = refused_gets number place
  checked_gets false number place r h = h refl

-- one field after another
pub then_gets : {A B : Type 0} (P : A → ℕ → Type 0) (Q : B → ℕ → Type 0) (r : Reading A) (f : A → ℕ → Reading B)
    → Gets P r → ((v : A) (next : ℕ) → P v next → Gets Q (f v next)) → Gets Q (and_then r f)
then_gets P Q (got v next) f h k = k v next (h.holds v next refl)
then_gets P Q (refused number place) f h k = refused_gets Q number place

-- a field whose value is checked
pub then_checked_gets : {A : Type 0} {P : A → ℕ → Type 0} (Q : A → ℕ → Type 0) {r : Reading A} (wrong : A → Bool) (number place : ℕ)
    → Gets P r → ((v : A) (next : ℕ) → P v next → wrong v ≡ false → Q v next)
    → Gets Q (and_then r (λ v next. refused_if (wrong v) number place (got v next)))
then_checked_gets {A} {P} Q {r} wrong number place h k =
    then_gets P Q r (λ v next. refused_if (wrong v) number place (got v next)) h
    (λ v next p. checked_gets Q (wrong v) number place (got v next) (λ e. got_gets Q v next (k v next p e)))

-- n records, by what holds where n are left, these are read and this is the place
pub records_gets : {A : Type 0} (item : List A → ℕ → Reading A) (Q : ℕ → List A → ℕ → Type 0)
    → ((n : ℕ) (read : List A) (at : ℕ) → Q (suc n) read at → Gets (λ r next. Q n (read ++ (r ∷ [])) next) (item read at))
    → (n : ℕ) (read : List A) (at : ℕ) → Q n read at → Gets (Q 0) (records_from item n read at)
unfolding records_from
records_gets item Q step zero read at h = got_gets (Q 0) read at h
records_gets item Q step (suc n) read at h =
    then_gets (λ r next. Q n (read ++ (r ∷ [])) next) (Q 0) (item read at) (λ r next. records_from item n (read ++ (r ∷ [])) next)
    (step n read at h) (λ r next k. records_gets item Q step n (read ++ (r ∷ [])) next k)
